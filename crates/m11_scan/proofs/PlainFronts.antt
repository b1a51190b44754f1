-- The bytes at the beginning of a text that a line contains unchanged.
use Rattle.std.proofs.Common.{◌≡◌, arith, ℕ, suc, ◌+◌, Bool, true, false, cond, List, [], ◌∷◌, take, refl, arith}
use Rattle.std.specs.Bool.{IsTrue}
use Rattle.std.specs.List.{AllByRecursion, prefix_len}
use Rattle.m11_scan.specs.Classes.{is_plain}

abbrev Plain : List ℕ → Type 0
Plain bytes = AllByRecursion (λ byte. IsTrue (is_plain byte)) bytes

kept : (is_kept : Bool) (byte : ℕ) (bytes : List ℕ) (count : ℕ) → is_plain byte ≡ is_kept → Plain (take count bytes)
    → Plain (take (cond is_kept (1 + count) 0) (byte ∷ bytes))
kept true byte bytes count plain front = let e : 1 + count ≡ suc count = omega arith in rw e (plain, front)
kept false byte bytes count other front = tt

pub front_plain : (bytes : List ℕ) → Plain (take (prefix_len is_plain bytes) bytes)
front_plain [] = tt
front_plain (byte ∷ bytes) = kept (is_plain byte) byte bytes (prefix_len is_plain bytes) refl (front_plain bytes)

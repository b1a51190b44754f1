-- Bytes put into memory one by one, and blocks one after another.
use Rattle.std.proofs.Common.{◌≡◌, ℕ, suc, ◌+◌, ◌<◌, List, [], ◌∷◌, ◌++◌, length, take, drop, get_or, refl, sym, ap, ◌∙◌, arith, append_assoc, inl, inr}
use Rattle.std.specs.List.{AllByRecursion}
use Rattle.std.proofs.lemmas.Bool.{cases_lt}
use Rattle.std.proofs.lemmas.List.{take-append-drop, length-append, length-take-le}
use Rattle.std.proofs.Math.ListN.{set}
use Rattle.std.proofs.Math.Seq.{set-append_seam, drop-cons}
use Rattle.m11_cpu_machine.specs.Memory.{with_byte}
use Rattle.m11_cpu.specs.Loading.{with_bytes, AreInside, stored}

pub none_put : (address : ℕ) (memory : List ℕ) → with_bytes address [] memory ≡ memory
none_put address memory =
    let e : address + 0 ≡ address = omega arith in
    ap (λ (k : ℕ). take address memory ++ drop k memory) e ∙ take-append-drop address memory

-- storing one more byte right after stored bytes gives the memory with all of them stored at once
pub one_put : (address byte : ℕ) (bytes memory : List ℕ) → address + length bytes < length memory
    → with_byte (address + length bytes) byte (with_bytes address bytes memory)
    ≡ with_bytes address (bytes ++ byte ∷ []) memory
one_put address byte bytes memory inside =
    let past : ℕ = address + length bytes in
    let front : List ℕ = take address memory ++ bytes in
    let rest : List ℕ = drop (suc past) memory in
    let long : length front ≡ past =
    omega (arith, length-append (take address memory) bytes, length-take-le address memory (omega arith)) in
    let next : suc past ≡ address + length (bytes ++ byte ∷ []) = omega (arith, length-append bytes (byte ∷ [])) in
    ap (λ (l : List ℕ). set l past byte)
    (sym (append_assoc (take address memory) bytes (drop past memory))
    ∙ ap (λ (l : List ℕ). front ++ l) (drop-cons memory past 0 inside))
    ∙ ap (λ (k : ℕ). set (front ++ (get_or memory past 0 ∷ rest)) k byte) (sym long)
    ∙ set-append_seam front (get_or memory past 0) rest byte
    ∙ append_assoc (take address memory) bytes (byte ∷ rest)
    ∙ ap (λ (l : List ℕ). take address memory ++ l) (sym (append_assoc bytes (byte ∷ []) rest))
    ∙ ap (λ (k : ℕ). take address memory ++ ((bytes ++ byte ∷ []) ++ drop k memory)) next

pub none_inside : (size address : ℕ) → AreInside size address []
none_inside size address index none = absurd (omega arith)

pub one_inside : (size address byte : ℕ) (bytes : List ℕ) → AreInside size address bytes
    → address + length bytes < size → AreInside size address (bytes ++ byte ∷ [])
one_inside size address byte bytes inside last index lt =
    let long = length-append bytes (byte ∷ []) in
    elim (cases_lt index (length bytes)) [
      | inl before ↦ inside index before
      | inr following ↦ omega arith
    ]

-- storing the blocks of a list with one more block at its end is storing that block after the others
pub block_put : (blocks : List (ℕ × List ℕ)) (address : ℕ) (bytes memory : List ℕ)
    → stored (blocks ++ (address, bytes) ∷ []) memory ≡ with_bytes address bytes (stored blocks memory)
block_put [] address bytes memory = refl
block_put (block ∷ blocks) address bytes memory =
    block_put blocks address bytes (with_bytes block.0 block.1 memory)

pub block_inside : (size : ℕ) (blocks : List (ℕ × List ℕ)) (address : ℕ) (bytes : List ℕ)
    → AllByRecursion (λ block. AreInside size block.0 block.1) blocks → AreInside size address bytes
    → AllByRecursion (λ block. AreInside size block.0 block.1) (blocks ++ (address, bytes) ∷ [])
block_inside size [] address bytes all last = (last, tt)
block_inside size (block ∷ blocks) address bytes all last =
    (all.0, block_inside size blocks address bytes all.1 last)

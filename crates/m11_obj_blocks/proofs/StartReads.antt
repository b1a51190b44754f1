-- Bytes are skipped up to the 001 that begins a block.
use Rattle.std.proofs.Common.{◌≡◌, ◌∙◌, List, ℕ, [], ◌∷◌, ◌++◌, Ok, Err, sym, ap, subst, append_assoc}
use Rattle.m11_obj_blocks.specs.declared.limited.Lack.TheVariants as lack
use Rattle.m11_obj_blocks.specs.Limited.{Position, Took, Lacks, Between, Refused, Read, IsShort, Fails, EndsBetween, Passes, Refuses, Reads, Stops}
use Rattle.m11_obj_blocks.proofs.Limits.{took_nothing, took_then, reads_after, stops_after}

module _ {Fault : Type 0} (start : List ℕ → Read Fault (Unit {0})) (nothing : start [] ≡ Err Between) (a b c : Position)
    (passed : List ℕ) (took : Took a b passed) (leads : (rest : List ℕ) → start (passed ++ rest) ≡ start rest) where
  pub byte_passed : (byte : ℕ) → ((rest : List ℕ) → start (byte ∷ rest) ≡ start rest) → Took b c (byte ∷ [])
      → (more : List ℕ) × Took a c more × ((rest : List ℕ) → start (more ++ rest) ≡ start rest)
  byte_passed byte same next = (
    passed ++ byte ∷ [],
    took_then a b c passed (byte ∷ []) took next,
    λ rest. ap start (append_assoc passed (byte ∷ []) rest) ∙ leads (byte ∷ rest) ∙ same rest,
  )

  pub start_read : (byte : ℕ) → ((rest : List ℕ) → start (byte ∷ rest) ≡ Ok (tt, rest)) → Took b c (byte ∷ [])
      → Reads start a c tt
  start_read byte is next =
      reads_after start start a b c passed took leads tt (record { given = byte ∷ []; took = next; is = is })

  pub start_refused : (byte : ℕ) (bad : Fault) → ((rest : List ℕ) → start (byte ∷ rest) ≡ Err (Refused bad rest))
      → Took b c (byte ∷ []) → Stops start a c (Refuses bad)
  start_refused byte bad is next = stops_after start start a b c passed took leads (Refuses bad) (byte ∷ [], next, is)

  short : IsShort (start [])
  short = let P : Read Fault (Unit {0}) → Type 0 = λ r. IsShort r in subst P (sym nothing) tt

  pub start_ends : Lacks b c lack.End → Stops start a c EndsBetween
  start_ends lacks =
      stops_after start start a b c passed took leads EndsBetween ([], (b, took_nothing b, lacks), nothing)

  pub start_fails : Lacks b c lack.Device → Stops start a c Fails
  start_fails lacks = stops_after start start a b c passed took leads Fails ([], (b, took_nothing b, lacks), short)

  pub start_passes : Lacks b c lack.TooMuch → Stops start a c Passes
  start_passes lacks = stops_after start start a b c passed took leads Passes ([], (b, took_nothing b, lacks), short)

-- Bytes that are ready without a read.
use Rattle.std.proofs.Common.{◌≡◌, ℕ, zero, suc, ◌≤◌, Bool, true, false, List, [], ◌++◌, length, take, drop, min, refl, sym, ap, ◌∙◌, arith, append_assoc, if◌then◌else◌, ◌==◌}
use Rattle.std.proofs.lemmas.List.{take-append-drop, take-take, length-take}
use Rattle.m11_base.specs.Devices.{last_count}
use Rattle.m11_base.specs.Feed.{ready_within}

-- a text is its first n bytes, then its other bytes, and then what follows it
pub front_and_rest : (n : ℕ) (xs rest : List ℕ) → xs ++ rest ≡ take n xs ++ (drop n xs ++ rest)
front_and_rest n xs rest =
    ap (λ (t : List ℕ). t ++ rest) (sym (take-append-drop n xs)) ∙ append_assoc (take n xs) (drop n xs) rest

-- the first `count` ready bytes are the first `count` of these bytes; there are that many of both, and `most` allows that many
pub record IsFront (most count : ℕ) (ready bytes : List ℕ) : Type 0 where
  pub same : take count ready ≡ take count bytes
  pub there : count ≤ length bytes
  pub allowed : count ≤ most
  pub counted : length (take count bytes) ≡ count

front_by : (is_last : Bool) (most count : ℕ) (bytes : List ℕ) → count ≤ length (if is_last then [] else take most bytes)
    → IsFront most count (if is_last then [] else take most bytes) bytes
front_by true most zero bytes h = record { same = refl; there = omega arith; allowed = omega arith; counted = refl }
front_by true most (suc count) bytes h = absurd (omega arith)
front_by false most count bytes h =
    let few : count ≤ min most (length bytes) = omega (arith, length-take most bytes) in
    let allowed : count ≤ most = omega arith in
    record {
      same = take-take count most bytes allowed;
      there = omega arith;
      allowed = allowed;
      counted = omega (arith, length-take count bytes);
    }

pub is_front : (most faults count : ℕ) (bytes : List ℕ) → count ≤ length (ready_within most faults bytes)
    → IsFront most count (ready_within most faults bytes) bytes
is_front most faults count bytes h = front_by (faults == last_count) most count bytes h

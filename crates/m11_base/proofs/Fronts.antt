-- What a buffered reader returns from its buffer.
use Rattle.std.proofs.Common.{◌≡◌, ℕ, ◌≤◌, length, take, drop, List, [], ◌∷◌, ◌++◌, ◌∙◌, sym, ap, subst, arith, Bool, true, false, Option, Some, None, if◌then◌else◌}
use Rattle.std.proofs.lemmas.List.{take-append-le, take-append-drop}
use Rattle.std.specs.Io.BufRead.{DropsConsumable}
use Rattle.std.specs.Io.KnownBytes.{Consumes, prepend_known}
use Rattle.std.specs.List.{slice_get}
use Rattle.std.specs.Option.{unwrap_or}
use Rattle.m11_base.specs.Feed.{BeginsWith, GivesBytes, ready_within, text_of_reader}
use Rattle.m11_base.proofs.Ready.{is_front, front_and_rest}

-- the byte at the front of the buffer is the next one; if the reader has no room for a buffer, nothing is known
pub front_taken : (is_bare : Bool) (inner new : Option (List ℕ)) (shown : List ℕ) (byte : ℕ) → slice_get shown 0 ≡ Some byte
    → DropsConsumable (if is_bare then None else prepend_known shown inner) new (Some (length shown)) 1
    → Consumes (if is_bare then None else prepend_known shown inner) new (byte ∷ [])
front_taken true inner new shown byte e drops = tt
front_taken false None new shown byte e drops = tt
front_taken false (Some rest) new [] byte e drops = absurd cc
front_taken false (Some rest) new (b ∷ bs) byte e drops =
    subst (λ n. Consumes (Some (b ∷ (bs ++ rest))) n (byte ∷ [])) (sym (drops (omega arith)))
    (ap (λ o. unwrap_or o 0 ∷ (bs ++ rest)) e)

-- any first bytes in the buffer are the first bytes still to come from the reader, if these are known
pub front_begins : (is_bare : Bool) (inner : Option (List ℕ)) (shown : List ℕ) (n : ℕ)
    → BeginsWith (text_of_reader (if is_bare then None else prepend_known shown inner)) (take n shown)
front_begins true inner shown n = tt
front_begins false None shown n = tt
front_begins false (Some rest) shown n = (drop n shown ++ rest, front_and_rest n shown rest)

passed : (is_bare : Bool) (inner new : Option (List ℕ)) (shown : List ℕ) (count : ℕ) → count ≤ length shown
    → DropsConsumable (if is_bare then None else prepend_known shown inner) new (Some (length shown)) count
    → GivesBytes (text_of_reader (if is_bare then None else prepend_known shown inner)) (text_of_reader new)
    (take count shown)
passed true inner new shown count h drops = tt
passed false None new shown count h drops = tt
passed false (Some rest) new shown count h drops = (
  drop count (shown ++ rest),
  sym (take-append-drop count (shown ++ rest))
      ∙ ap (λ (t : List ℕ). t ++ drop count (shown ++ rest)) (take-append-le count shown rest h),
  ap text_of_reader (drops h),
)

-- if bytes are consumed from the front of the buffer, they were the next bytes of the reader
pub front_passed : (is_bare : Bool) (inner new : Option (List ℕ)) (shown : List ℕ) (most faults count : ℕ)
    → count ≤ length (ready_within most faults shown)
    → DropsConsumable (if is_bare then None else prepend_known shown inner) new (Some (length shown)) count
    → GivesBytes (text_of_reader (if is_bare then None else prepend_known shown inner)) (text_of_reader new)
    (take count (ready_within most faults shown))
front_passed is_bare inner new shown most faults count h drops =
    let front = is_front most faults count shown h in
    rw front.same (passed is_bare inner new shown count front.there drops)

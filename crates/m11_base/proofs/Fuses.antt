-- The bytes that come through a fuse are those of the feed behind it, until the fuse blows.
use Rattle.std.proofs.Common.{◌≡◌, ◌≢◌, ℕ, zero, suc, ◌+◌, ◌-◌, ◌<◌, ◌≤◌, List, [], ◌∷◌, ◌++◌, length, take, drop, length-append, Option, Some, None, Result, Ok, Err, refl, sym, ap, subst, ◌∙◌, arith, inl, inr, sub-one}
use Rattle.std.proofs.lemmas.Bool.{cases_lt, le-ltb, lt-ltb}
use Rattle.std.proofs.lemmas.List.{length-take}
use Rattle.std.proofs.Math.Seq.{take-append-add}
use Rattle.m11_base.specs.Devices.{last_count}
use Rattle.m11_base.specs.declared.fault.DeviceFault.{DeviceFault}
use Rattle.m11_base.specs.Feed.{Text, Ending, Ends, Fails, MayFail, Gives, GivesByte, GivesBytes, GivesEnd, GivesFailure, BeginsWith, ready_within, bytes_through_fuse, text_through_fuse}
use Rattle.m11_base.proofs.Ready.{is_front, front_and_rest}

abbrev text : List ℕ → Ending → Text
text bytes ending = record { bytes = bytes; ending = ending }

whole_text : (calls : ℕ) (bytes : List ℕ) (blown whole : Ending) → length bytes ≤ calls
    → bytes_through_fuse calls bytes blown whole ≡ text bytes whole
whole_text calls bytes blown whole h = rw (le-ltb calls (length bytes) h) refl

cut_text : (calls : ℕ) (bytes : List ℕ) (blown whole : Ending) → calls < length bytes
    → bytes_through_fuse calls bytes blown whole ≡ text (take calls bytes) blown
cut_text calls bytes blown whole h = rw (lt-ltb calls (length bytes) h) refl

byte_between : (x y : Text) (byte : ℕ) (rest : List ℕ) (ending : Ending) → x ≡ text (byte ∷ rest) ending
    → y ≡ text rest ending → GivesByte (Some x) (Some y) byte
byte_between x y byte rest ending e f = (
  rest,
  ap (λ (t : Text). t.bytes) e,
  ap (λ (t : Text). Some t) (f ∙ ap (λ (d : Ending). text rest d) (sym (ap (λ (t : Text). t.ending) e))),
)

byte_through : (calls byte : ℕ) (rest : List ℕ) (blown whole : Ending)
    → GivesByte (Some (bytes_through_fuse (suc calls) (byte ∷ rest) blown whole))
    (Some (bytes_through_fuse calls rest blown whole)) byte
byte_through calls byte rest blown whole =
    elim (cases_lt calls (length rest)) [
      | inl lt ↦ byte_between _ _ byte (take calls rest) blown
          (cut_text (suc calls) (byte ∷ rest) blown whole (omega arith)) (cut_text calls rest blown whole lt)
      | inr le ↦ byte_between _ _ byte rest whole (whole_text (suc calls) (byte ∷ rest) blown whole (omega arith))
          (whole_text calls rest blown whole le)
    ]

end_through : (calls : ℕ) (blown whole : Ending) → whole ≢ Fails
    → GivesEnd (Some (bytes_through_fuse (suc calls) [] blown whole)) (Some (bytes_through_fuse calls [] blown whole))
end_through calls blown whole h =
    let e = whole_text (suc calls) [] blown whole (omega arith) in
    let f = whole_text calls [] blown whole (omega arith) in (
      (ap (λ (t : Text). t.bytes) e, λ bad. h (sym (ap (λ (t : Text). t.ending) e) ∙ bad)),
      ap (λ (t : Text). Some t) (f ∙ sym e),
    )

MayFail≢Fails : MayFail ≢ Fails
MayFail≢Fails e = cc

Ends≢Fails : Ends ≢ Fails
Ends≢Fails e = cc

byte_of : (calls byte : ℕ) (bytes rest : List ℕ) (blown whole : Ending) → bytes ≡ byte ∷ rest
    → GivesByte (Some (bytes_through_fuse (suc calls) bytes blown whole))
    (Some (bytes_through_fuse calls rest blown whole)) byte
byte_of calls byte bytes rest blown whole front = rw front (byte_through calls byte rest blown whole)

end_of : (calls : ℕ) (bytes : List ℕ) (blown whole : Ending) → whole ≢ Fails → bytes ≡ []
    → GivesEnd (Some (bytes_through_fuse (suc calls) bytes blown whole))
    (Some (bytes_through_fuse calls bytes blown whole))
end_of calls bytes blown whole h none = rw none (end_through calls blown whole h)

failure_between : (count : ℕ) (x y : Text) → x ≡ text [] Fails → y ≡ text [] Fails
    → GivesFailure (Some x) (Some y) count
failure_between count x y e f = rw (e, f) (inl refl, refl)

failure_of : (count calls : ℕ) (bytes : List ℕ) → bytes ≡ []
    → GivesFailure (Some (bytes_through_fuse (suc calls) bytes Fails Fails))
    (Some (bytes_through_fuse calls bytes Fails Fails)) count
failure_of count calls bytes none =
    rw none (failure_between count _ _ (whole_text (suc calls) [] Fails Fails (omega arith))
    (whole_text calls [] Fails Fails (omega arith)))

-- a call that the fuse passes on
module _ (count inner : ℕ) (unfailed : inner ≢ last_count) where
  unknown_gives : (new : Option Text) (result : Result (Option ℕ) DeviceFault) → Gives None new count result
  unknown_gives new (Ok None) = tt
  unknown_gives new (Ok (Some byte)) = tt
  unknown_gives new (Err e) = tt

  known_through : (calls : ℕ) (bytes : List ℕ) (ending : Ending) (new : Option Text)
      (result : Result (Option ℕ) DeviceFault)
      → Gives (Some (text bytes ending)) new inner result
      → Gives (text_through_fuse (suc calls) (Some (text bytes ending))) (text_through_fuse calls new) count result
  known_through calls bytes MayFail new result h = unknown_gives (text_through_fuse calls new) result
  known_through calls bytes Ends new (Ok None) h = rw h.1 (end_of calls bytes Fails MayFail MayFail≢Fails h.0.0)
  known_through calls bytes Ends new (Ok (Some byte)) h = rw h.2 (byte_of calls byte bytes h.0 Fails MayFail h.1)
  known_through calls bytes Ends new (Err e) h = elim h.0 [ inl bad ↦ absurd bad | inr last ↦ absurd (unfailed last) ]
  known_through calls bytes Fails new (Ok None) h = absurd (h.0.1 refl)
  known_through calls bytes Fails new (Ok (Some byte)) h = rw h.2 (byte_of calls byte bytes h.0 Fails Fails h.1)
  known_through calls bytes Fails new (Err e) h =
      elim h.0 [ inl none ↦ rw h.1 (failure_of count calls bytes none) | inr last ↦ absurd (unfailed last) ]

  gives_through : (calls : ℕ) (old new : Option Text) (result : Result (Option ℕ) DeviceFault)
      → Gives old new inner result
      → Gives (text_through_fuse (suc calls) old) (text_through_fuse calls new) count result
  gives_through calls None new result h = unknown_gives (text_through_fuse calls new) result
  gives_through calls (Some t) new result h = known_through calls t.bytes t.ending new result h

  pub gives_through_fuse : (calls : ℕ) (old new : Option Text) (result : Result (Option ℕ) DeviceFault)
      → 0 < calls → Gives old new inner result
      → Gives (text_through_fuse calls old) (text_through_fuse (calls - 1) new) count result
  gives_through_fuse zero old new result some h = absurd (omega arith)
  gives_through_fuse (suc calls) old new result some h = rw sub-one (gives_through calls old new result h)

-- ---- bytes that are ready

passed_between : (x y : Text) (xs rest : List ℕ) (ending : Ending) → x ≡ text (xs ++ rest) ending → y ≡ text rest ending
    → GivesBytes (Some x) (Some y) xs
passed_between x y xs rest ending e f = (
  rest,
  ap (λ (t : Text). t.bytes) e,
  ap (λ (t : Text). Some t) (f ∙ ap (λ (d : Ending). text rest d) (sym (ap (λ (t : Text). t.ending) e))),
)

cut_after : (calls : ℕ) (xs rest : List ℕ) → length xs ≤ calls
    → take calls (xs ++ rest) ≡ xs ++ take (calls - length xs) rest
cut_after calls xs rest h =
    let both : calls ≡ length xs + (calls - length xs) = omega arith in
    ap (λ n. take n (xs ++ rest)) both ∙ take-append-add xs rest (calls - length xs)

passed_through : (calls : ℕ) (xs rest : List ℕ) (blown whole : Ending) → length xs ≤ calls
    → GivesBytes (Some (bytes_through_fuse calls (xs ++ rest) blown whole))
    (Some (bytes_through_fuse (calls - length xs) rest blown whole)) xs
passed_through calls xs rest blown whole h =
    elim (cases_lt calls (length (xs ++ rest))) [
      | inl lt ↦ passed_between _ _ xs (take (calls - length xs) rest) blown
          (cut_text calls (xs ++ rest) blown whole lt ∙ ap (λ (t : List ℕ). text t blown) (cut_after calls xs rest h))
          (cut_text (calls - length xs) rest blown whole (omega (arith, length-append xs rest)))
      | inr le ↦ passed_between _ _ xs rest whole (whole_text calls (xs ++ rest) blown whole le)
          (whole_text (calls - length xs) rest blown whole (omega (arith, length-append xs rest)))
    ]

passed_of : (calls : ℕ) (bytes xs rest : List ℕ) (blown whole : Ending) → length xs ≤ calls → bytes ≡ xs ++ rest
    → GivesBytes (Some (bytes_through_fuse calls bytes blown whole))
    (Some (bytes_through_fuse (calls - length xs) rest blown whole)) xs
passed_of calls bytes xs rest blown whole h front = rw front (passed_through calls xs rest blown whole h)

known_passed : (calls : ℕ) (xs bytes : List ℕ) (ending : Ending) (new : Option Text) → length xs ≤ calls
    → GivesBytes (Some (text bytes ending)) new xs
    → GivesBytes (text_through_fuse calls (Some (text bytes ending))) (text_through_fuse (calls - length xs) new) xs
known_passed calls xs bytes MayFail new h given = tt
known_passed calls xs bytes Ends new h given =
    rw given.2 (passed_of calls bytes xs given.0 Fails MayFail h given.1)
known_passed calls xs bytes Fails new h given =
    rw given.2 (passed_of calls bytes xs given.0 Fails Fails h given.1)

bytes_passed : (calls : ℕ) (xs : List ℕ) (old new : Option Text) → length xs ≤ calls → GivesBytes old new xs
    → GivesBytes (text_through_fuse calls old) (text_through_fuse (calls - length xs) new) xs
bytes_passed calls xs None new h given = tt
bytes_passed calls xs (Some t) new h given = known_passed calls xs t.bytes t.ending new h given

-- if ready bytes are consumed through a fuse, they are the next bytes of its text, and use up as many calls as there are bytes
pub passes_through_fuse : (calls faults count : ℕ) (old new : Option Text) (inner : List ℕ)
    → count ≤ length (ready_within calls faults inner) → GivesBytes old new (take count inner)
    → GivesBytes (text_through_fuse calls old) (text_through_fuse (calls - count) new)
    (take count (ready_within calls faults inner))
passes_through_fuse calls faults count old new inner h given =
    let front = is_front calls faults count inner h in
    let few : length (take count inner) ≤ calls = omega (arith, front.counted, front.allowed) in
    let P : ℕ → Type 0 =
    λ n. GivesBytes (text_through_fuse calls old) (text_through_fuse (calls - n) new) (take count inner) in
    rw front.same (subst P front.counted (bytes_passed calls (take count inner) old new few given))

begins_of : (calls : ℕ) (bytes xs rest : List ℕ) (blown whole : Ending) → length xs ≤ calls → bytes ≡ xs ++ rest
    → BeginsWith (Some (bytes_through_fuse calls bytes blown whole)) xs
begins_of calls bytes xs rest blown whole h front =
    let given = passed_of calls bytes xs rest blown whole h front in (given.0, given.1)

known_begins : (calls : ℕ) (bytes xs rest : List ℕ) (ending : Ending) → length xs ≤ calls → bytes ≡ xs ++ rest
    → BeginsWith (text_through_fuse calls (Some (text bytes ending))) xs
known_begins calls bytes xs rest MayFail h front = tt
known_begins calls bytes xs rest Ends h front = begins_of calls bytes xs rest Fails MayFail h front
known_begins calls bytes xs rest Fails h front = begins_of calls bytes xs rest Fails Fails h front

-- if bytes are the first of a feed's text, then as many of them as the fuse has calls left, or fewer, are the first of the text through the
-- fuse
pub begins_through_fuse : (calls count : ℕ) (old : Option Text) (inner : List ℕ) → count ≤ calls
    → BeginsWith old inner → BeginsWith (text_through_fuse calls old) (take count inner)
begins_through_fuse calls count None inner h begins = tt
begins_through_fuse calls count (Some t) inner h begins =
    known_begins calls t.bytes (take count inner) (drop count inner ++ begins.0) t.ending
    (omega (arith, length-take count inner)) (begins.1 ∙ front_and_rest count inner begins.0)

-- Writes that a loop makes for the items of a list, one item after another. (This project's own.)
use Rattle.std.proofs.Common.{◌≡◌, List, [], ◌++◌, Result, Ok, Err, sym, subst}
use Rattle.m11_base_writes.proofs.Writing.{gains_nothing, stops_before, writes_then}
use Rattle.m11_base_writes.specs.States.{OutputState}
use Rattle.m11_base_writes.specs.Writes.{Gains, Kinds, Stops, Write, Writes}

module _ {O E : Type 0} (kinds : Kinds O E) where
  -- whatever becomes of the writes left, the same becomes of all writes
  abbrev pub Leads : Type 0 → (O → OutputState) → (O → OutputState) → List (Write O) → List (Write O) → Type 0
  Leads A start now rest all =
      (new : O → OutputState) (result : Result A E) → Writes kinds now new rest result → Writes kinds start new all result

  module _ {A : Type 0} (start now : O → OutputState) (all : List (Write O)) where
    pub wrote_one : (later : O → OutputState) (one rest left : List (Write O)) → left ≡ one ++ rest
        → Leads A start now left all → Gains kinds now later one → Leads A start later rest all
    wrote_one later one rest left e leads gains = λ new result h.
        let P : List (Write O) → Type 0 = λ ws. Writes kinds now new ws result in
        leads new result (subst P (sym e) (writes_then kinds now later new one rest result gains h))

    pub stopped_there : (new : O → OutputState) (one rest left : List (Write O)) (stopped : E) → left ≡ one ++ rest
        → Leads A start now left all → Stops kinds now new one stopped → Stops kinds start new all stopped
    stopped_there new one rest left stopped e leads h =
        let P : List (Write O) → Type 0 = λ ws. Writes {A = A} kinds now new ws (Err stopped) in
        leads new (Err stopped) (subst P (sym e) (stops_before kinds now new one rest stopped h))

    pub wrote_all : (left : List (Write O)) (done : A) → left ≡ [] → Leads A start now left all
        → Gains kinds start now all
    wrote_all left done e leads =
        let P : List (Write O) → Type 0 = λ ws. Writes {A = A} kinds now now ws (Ok done) in
        leads now (Ok done) (subst P (sym e) (gains_nothing kinds now))

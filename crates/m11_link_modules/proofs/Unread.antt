-- Relocations that are accepted while they are read.
use Rattle.std.proofs.Common.{◌≡◌, ℕ, List, [], ◌∷◌, map, IfOk, Result, Ok, Err, sym, subst, ap, ◌∙◌}
use Rattle.m11_obj.specs.declared.fault.RecordFault.{RecordFault}
use Rattle.m11_obj.specs.declared.relocations.Relocation.{Relocation}
use Rattle.m11_obj.specs.Contents.{unread_content}
use Rattle.m11_obj.specs.Reading.{◌>>=◌, AreRelocations, checked, content_of, relocations_left, relocations_of}
use Rattle.m11_obj.specs.Records.{Content}
use Rattle.m11_obj.proofs.Unread.{are_left, are_where_checked, checked_next, checked_none, left_next, left_none, record_read}
use Rattle.m11_link_modules.specs.declared.fault.ModuleFault.{ModuleFault}
use Rattle.m11_link_modules.specs.Parts.{Part, Relocated, Relocations, parts_in, record_parts}
use Rattle.m11_link_modules.specs.Positions.{RulesState}
use Rattle.m11_link_modules.specs.Steps.{RulesAccept, AcceptsOne}
use Rattle.m11_link_modules.proofs.Taking.{GoesOn, Outcome, walk_ended, walk_refused, walk_taken}

-- the parts of the relocations that these bytes have
abbrev pub parts_left : List ℕ → List Part
parts_left bytes = map (λ relocation. Relocated relocation) (relocations_left bytes)

-- if all bytes are relocations, a result for the remaining ones is a result for all of them
abbrev pub LeadsOn : RulesState → RulesState → List ℕ → List ℕ → Type 0
LeadsOn old now bytes all = AreRelocations all → GoesOn old now (parts_left bytes) (parts_left all)

-- checking the remaining bytes has the same result as checking all bytes
abbrev pub SameRead : List ℕ → List ℕ → Type 0
SameRead bytes all = checked (relocations_of bytes) ≡ checked (relocations_of all)

-- the relocations in `bytes` are this one and then those in `rest`
abbrev pub IsBefore : Relocation → List ℕ → List ℕ → Type 0
IsBefore relocation bytes rest = relocations_of bytes ≡ (relocations_of rest >>= λ others. Ok (relocation ∷ others))

module _ (all bytes rest : List ℕ) (relocation : Relocation) (same : SameRead bytes all)
    (first : IsBefore relocation bytes rest) where
  pub same_after : SameRead rest all
  same_after = sym (checked_next bytes rest relocation first) ∙ same

  pub left_after : AreRelocations all → relocations_left bytes ≡ relocation ∷ relocations_left rest
  left_after are = left_next bytes rest relocation (are_left bytes all same are) first

  pub one_taken : (old now later : RulesState) (done : Unit {0}) → LeadsOn old now bytes all
      → AcceptsOne now later (Relocated relocation) (Ok done) → LeadsOn old later rest all
  one_taken old now later done i h = λ are. walk_taken (λ relocation. Relocated relocation) old now later
      (relocations_left all) (relocations_left bytes) (relocations_left rest) relocation done (left_after are) (i are) h

  pub one_refused : (old now new other : RulesState) (fault : ModuleFault) → LeadsOn old now bytes all
      → AcceptsOne now other (Relocated relocation) (Err fault) → AreRelocations all
      → RulesAccept old new (parts_left all) (Err fault)
  one_refused old now new other fault i h are = walk_refused (λ relocation. Relocated relocation) old now new other
      (relocations_left all) (relocations_left bytes) (relocations_left rest) relocation fault (left_after are) (i are) h

module _ (all bytes : List ℕ) (same : SameRead bytes all) (none : relocations_of bytes ≡ Ok []) where
  pub all_read : ◌≡◌ {A = Result (Unit {0}) RecordFault} (Ok tt) (checked (relocations_of all))
  all_read = sym (checked_none bytes none) ∙ same

  pub all_are : AreRelocations all
  all_are = are_where_checked all tt (sym all_read)

  pub all_taken : (old now : RulesState) (done : Unit {0}) → LeadsOn old now bytes all → RulesAccept old now (parts_left all) (Ok done)
  all_taken old now done i = walk_ended (λ relocation. Relocated relocation) old now (relocations_left all)
      (relocations_left bytes) done (left_none bytes none) (i all_are)

pub fault_read : (all bytes : List ℕ) (fault : RecordFault) → SameRead bytes all → relocations_of bytes ≡ Err fault
    → ◌≡◌ {A = Result (Unit {0}) RecordFault} (Err fault) (checked (relocations_of all))
fault_read all bytes fault same e = sym (ap (λ (r : Result (List Relocation) RecordFault). checked r) e) ∙ same

-- the parts of a block of relocations are the beginning of its record, and then the relocations
pub record_of_parts : (bytes unread : List ℕ) → content_of bytes ≡ unread_content unread → AreRelocations unread
    → record_parts bytes ≡ Relocations ∷ parts_left unread
record_of_parts bytes unread e are =
    ap (λ (r : Result Content RecordFault). parts_in r) (e ∙ record_read unread are)

-- ---- a fault of a part, returned if all bytes are relocations

abbrev pub Judged : Type 0
Judged = Result Outcome RecordFault

judged_by : (old new : RulesState) (all : List ℕ) (fault : ModuleFault) (outcome : Outcome) → outcome ≡ Err fault
    → RulesAccept old new (parts_left all) (Err fault) → RulesAccept old new (parts_left all) outcome
judged_by old new all fault outcome e h =
    let P : Outcome → Type 0 = λ o. RulesAccept old new (parts_left all) o in subst P (sym e) h

pub refused_judged : (old new : RulesState) (all : List ℕ) (fault : ModuleFault) (result : Judged)
    → IfOk result (λ judged. judged ≡ Err fault) → checked result ≡ checked (relocations_of all)
    → (AreRelocations all → RulesAccept old new (parts_left all) (Err fault))
    → IfOk result (λ judged. RulesAccept old new (parts_left all) judged)
refused_judged old new all fault (Ok outcome) e same h =
    judged_by old new all fault outcome e (h (are_where_checked all tt (sym same)))
refused_judged old new all fault (Err refused) e same h = tt

none_noted : (P : Type 0) (fault : ModuleFault) (outcome : Outcome) → outcome ≡ Err fault → IfOk outcome (λ done. P)
none_noted P fault (Ok done) e = absurd cc
none_noted P fault (Err other) e = tt

pub refused_noted : (P : Type 0) (fault : ModuleFault) (result : Judged) → IfOk result (λ judged. judged ≡ Err fault)
    → IfOk result (λ judged. IfOk judged (λ done. P))
refused_noted P fault (Ok outcome) e = none_noted P fault outcome e
refused_noted P fault (Err refused) e = tt

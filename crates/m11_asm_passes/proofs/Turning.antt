-- The results of the calls that a pass makes.
use Rattle.std.proofs.Common.{Bool, ◌≡◌, ◌∙◌, ◌<◌, List, ◌++◌, length, Result, Ok, Err, IsErrAnd, refl, sym, ap, subst}
use Rattle.m11_asm_faults.specs.Faults.{of_unfolding}
use Rattle.m11_asm_faults.specs.declared.fault.AsmFault.{AsmFault}
use Rattle.m11_unfold.specs.Unfolder.{Comes, Steps, Stops, live_of}
use Rattle.m11_scan.specs.Line.{SourceLine}
use Rattle.m11_unfold.specs.declared.steps.Step.{Step}
use Rattle.m11_unfold.specs.declared.steps.Step.TheVariants as step
use Rattle.m11_unfold_rules.specs.Stages.{Stage}
use Rattle.m11_unfold_rules.specs.Taking.{Live}
use Rattle.m11_unfold_rules.specs.declared.fault.UnfoldFault.{UnfoldFault}
use Rattle.m11_asm_rules.specs.Limits.{most_names}
use Rattle.m11_asm_rules.specs.Meanings.{Map}
use Rattle.m11_asm_rules.specs.SymbolUses.{SymbolUse, symbol_uses}
use Rattle.m11_asm_rules.specs.Tables.{Table}
use Rattle.m11_asm_lines.proofs.Gathering.{added_then, failed_first}
use Rattle.m11_asm_lines.specs.Faults.{Refuses}
use Rattle.m11_asm_lines.specs.Counting.{with_counted}
use Rattle.m11_asm_lines.specs.UsedSymbols.{Adds, UsedNames, with_all}
use Rattle.m11_asm_lines.specs.declared.counting.Counting.{Counting}
use Rattle.m11_asm_passes.specs.Faults.{FailsAtLine}
use Rattle.m11_asm_passes.specs.Lines.{acted}
use Rattle.m11_asm_rules.specs.Lines.{after_line}
use Rattle.m11_asm_passes.specs.Refusals.{given_by, line_fault}
use Rattle.m11_asm_passes.specs.States.{PassState}
use Rattle.m11_asm_passes.specs.Turns.{FailsAt, Places, PlacesNext, LineFact, Turns}
use Rattle.m11_asm_passes.specs.Turns as turning
use Rattle.m11_asm_passes.specs.declared.turns.Turn.{Turn}

-- ---- uses

module _ (first second : List SymbolUse) (old : UsedNames) where
  pub first_refused : (fault : AsmFault) (new : UsedNames) (result : Result (Unit {0}) AsmFault)
      → IsErrAnd result (λ f. f ≡ fault) → Refuses fault (most_names < length (with_all first old).names) ⊥
      → Adds (first ++ second) old new result
  first_refused fault new (Ok _) is refuses = absurd is
  first_refused fault new (Err other) is refuses =
      let P : AsmFault → Type 0 = λ f. Refuses f (most_names < length (with_all (first ++ second) old).names) ⊥ in
      subst P (sym is) (failed_first first second old old fault (Err fault) refuses refl)

  pub second_refused : (middle new : UsedNames) (fault : AsmFault) (result : Result (Unit {0}) AsmFault)
      → IsErrAnd result (λ f. f ≡ fault) → middle ≡ with_all first old
      → Refuses fault (most_names < length (with_all second middle).names) ⊥ → Adds (first ++ second) old new result
  second_refused middle new fault (Ok _) is e refuses = absurd is
  second_refused middle new fault (Err other) is e refuses =
      let P : AsmFault → Type 0 = λ f. Refuses f (most_names < length (with_all (first ++ second) old).names) ⊥ in
      subst P (sym is) (added_then first second old middle middle (Err fault) e refuses)

-- ---- the outcome of a step of unfolding

pub comes_of : (before after : Stage) (line : SourceLine) (next : Step) (is_expanded : Bool) → next ≡ step.Line is_expanded
    → Steps before after line (Ok next) → Comes before (live_of line is_expanded) after
comes_of before after line next is_expanded is stepped =
    let P : Step → Type 0 = λ s. Steps before after line (Ok s) in subst P is stepped

-- ---- turns

module _ (map_ : Map) (old new : PassState) (said : LineFact) where
  pub unfolding_fails : (fault : UnfoldFault) (live : Live) (result : Result Turn AsmFault) → Stops old.unfolder.stage fault
      → IsErrAnd result (λ f. f ≡ of_unfolding fault) → Turns map_ old new live said result
  unfolding_fails fault live (Ok turn) stops is = absurd is
  unfolding_fails fault live (Err other) stops is = turning.FailsAt.BeforeLine fault is stops

  pub line_fails : (middle : PassState) (live here : Live) (stage : Stage) (fault : AsmFault) (result : Result Turn AsmFault)
      → Comes old.unfolder.stage live stage → middle.table ≡ old.table → middle.counting ≡ old.counting
      → FailsAtLine map_ middle.table middle.counting live stage fault
      → IsErrAnd result (λ f. f ≡ fault) → Turns map_ old new here said result
  line_fails middle live here stage fault (Ok turn) comes table counting fails is = absurd is
  line_fails middle live here stage fault (Err other) comes table counting fails is =
      let P : AsmFault → Type 0 = λ f. FailsAt map_ old f in
      let T : Table → Type 0 = λ t. FailsAtLine map_ t middle.counting live stage fault in
      let C : Counting → Type 0 = λ c. FailsAtLine map_ old.table c live stage fault in
      subst P (sym is) (turning.FailsAt.AtLine live stage comes (subst C counting (subst T table fails)))

  pub line_places : (middle : PassState) (live here : Live) (stage : Stage) → here ≡ live
      → middle.table ≡ old.table → middle.counting ≡ old.counting
      → Comes old.unfolder.stage live stage → Places map_ live stage middle new said (Ok tt) → PlacesNext map_ old new here said
  line_places middle live here stage same table counting comes places =
      let L : Live → Type 0 = λ l. PlacesNext map_ old new l said in
      let S : Table → Type 0 = λ t. said t (given_by t live stage) in
      subst L (sym same) (record {
        stage = stage;
        comes = comes;
        places = record {
          leaves = record {
            fits = ap (λ (t : Table). line_fault map_ t old.counting live stage) (sym table)
                ∙ ap (λ (c : Counting). line_fault map_ middle.table c live stage) (sym counting) ∙ places.leaves.fits;
            stage_is = places.leaves.stage_is ∙ ap (λ (t : Table). acted t live stage) table;
            table = places.leaves.table ∙ ap (λ (t : Table). after_line map_ t (given_by t live stage)) table;
            counting = places.leaves.counting
                ∙ ap (λ (t : Table). with_counted (symbol_uses t (given_by t live stage)) middle.counting) table
                ∙ ap (with_counted (symbol_uses old.table (given_by old.table live stage))) counting;
          };
          is_said = subst S table places.is_said;
        };
      })

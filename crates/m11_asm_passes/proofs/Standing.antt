-- The state of a pass after the lines that its calls placed.
use Rattle.std.proofs.Common.{◌≡◌, ◌∙◌, List, [], ◌∷◌, ◌++◌, length, Some, None, refl, sym, ap, subst}
use Rattle.std.proofs.lemmas.List.{map-append}
use Rattle.std.specs.Prelude.{false, Result, Ok, Err}
use Rattle.m11_asm_faults.specs.Faults.{of_unfolding}
use Rattle.m11_asm_faults.specs.declared.fault.AsmFault.{AsmFault}
use Rattle.m11_asm_faults.specs.declared.fault.AsmFault.TheVariants.{Read, Write, TooMuchSource, NoMemory}
use Rattle.m11_scan.specs.Line.{SourceLine}
use Rattle.m11_unfold.specs.Unfolder.{Comes, Stops}
use Rattle.m11_unfold_rules.specs.Stages.{Stage}
use Rattle.m11_unfold_rules.specs.Taking.{Live}
use Rattle.m11_unfold_rules.specs.Unfolding.{Leads, UnfoldedLine}
use Rattle.m11_unfold_rules.specs.declared.fault.UnfoldFault.{UnfoldFault}
use Rattle.m11_unfold_rules.specs.declared.fault.UnfoldFault.TheVariants as limit
use Rattle.m11_asm_rules.specs.Lines.{after_line}
use Rattle.m11_asm_rules.specs.Meanings.{Map, empty_map}
use Rattle.m11_asm_rules.specs.SymbolUses.{symbol_uses}
use Rattle.m11_asm_rules.specs.Placements.{after_lines, table_after}
use Rattle.m11_asm_rules.specs.Tables.{Table, first_table}
use Rattle.m11_asm_lines.specs.Counting.{with_counted}
use Rattle.m11_asm_lines.specs.declared.counting.Counting.{Counting}
use Rattle.m11_asm_passes.proofs.Faults.{IsOfPass, line_fault_is_of_pass}
use Rattle.m11_asm_passes.specs.Faults.{FailsAtLine, LacksMemory}
use Rattle.m11_asm_passes.specs.Faults as faults
use Rattle.m11_asm_passes.specs.Lines.{NumberedLine, PassLines, acted, counting_after, counting_at, givens, numbered, table_at}
use Rattle.m11_asm_passes.specs.Lines as lines
use Rattle.m11_asm_passes.specs.Placed.{live_in}
use Rattle.m11_asm_passes.specs.Reaching.{Exceeds, MayLackMemory, PlacesLine, Reaches, Refused}
use Rattle.m11_asm_passes.specs.Reaching as reaching
use Rattle.m11_asm_passes.specs.Refusals.{given_by, line_fault}
use Rattle.m11_asm_passes.specs.States.{PassState, PassAfter, fed}
use Rattle.m11_asm_passes.specs.Turns.{FailsAt, IsUnplaced, PlacesAfter, PlacesNext, LineFact, SaysLive, SaysPlaced, Turns}
use Rattle.m11_asm_passes.specs.Turns as turning
use Rattle.m11_asm_passes.specs.declared.placed.LiveLine.{LiveLine}
use Rattle.m11_asm_passes.specs.declared.placed.PlacedLine.{PlacedLine}
use Rattle.m11_asm_passes.specs.declared.turns.Turn.{Turn}
use Rattle.m11_asm_passes.specs.declared.turns.Turn.TheVariants.{NeedLine, End, Line}

-- ---- one more line

givens_more : (all : List NumberedLine) (one : NumberedLine) → givens (all ++ one ∷ []) ≡ givens all ++ one.given ∷ []
givens_more all one = map-append (λ (line : NumberedLine). line.given) all (one ∷ [])

tables_more : (map_ : Map) (table : Table) (all : List UnfoldedLine) (one : UnfoldedLine)
    → after_lines map_ table (all ++ one ∷ []) ≡ after_line map_ (after_lines map_ table all) one
tables_more map_ table [] one = refl
tables_more map_ table (given ∷ all) one = tables_more map_ (after_line map_ table given) all one

counting_more : (map_ : Map) (table : Table) (all : List UnfoldedLine) (one : UnfoldedLine) (before : Counting)
    → counting_after map_ table (all ++ one ∷ []) before
    ≡ with_counted (symbol_uses (after_lines map_ table all) one) (counting_after map_ table all before)
counting_more map_ table [] one before = refl
counting_more map_ table (given ∷ all) one before =
    counting_more map_ (after_line map_ table given) all one (with_counted (symbol_uses table given) before)

module _ (map_ : Map) (before : Counting) where
  table_more : (all : List NumberedLine) (one : NumberedLine) → table_at map_ (all ++ one ∷ []) ≡ after_line map_ (table_at map_ all) one.given
  table_more all one =
      ap (table_after map_) (givens_more all one) ∙ tables_more map_ first_table (givens all) one.given

  all_more : (all : List NumberedLine) (one : NumberedLine)
      → counting_at map_ before (all ++ one ∷ [])
      ≡ with_counted (symbol_uses (table_at map_ all) one.given) (counting_at map_ before all)
  all_more all one =
      ap (λ (gs : List UnfoldedLine). counting_after map_ first_table gs before) (givens_more all one)
      ∙ counting_more map_ first_table (givens all) one.given before

  pub feeds : (source : List SourceLine) (all : List NumberedLine) (line : SourceLine) (pass_state : PassState)
      → PassAfter map_ before source all pass_state → pass_state.unfolder.stage.left ≡ [] → pass_state.unfolder.stage.has_ended ≡ false
      → PassAfter map_ before (source ++ line ∷ []) all (fed line pass_state)
  feeds source all line pass_state stands none goes = record {
    lines_are = lines.PassLines.Reading source all pass_state.unfolder.stage line stands.lines_are none goes;
    table = stands.table;
    counting = stands.counting;
  }

  module _ (source : List SourceLine) (all : List NumberedLine) (old : PassState) (stands : PassAfter map_ before source all old) where
    rests : (new : PassState) → IsUnplaced old new → PassLines map_ before source all new.unfolder.stage
        → PassAfter map_ before source all new
    rests new unplaced lines_are = record {
      lines_are = lines_are;
      table = unplaced.table ∙ stands.table;
      counting = unplaced.counting ∙ stands.counting;
    }

    passing : (after : Stage) (comes_none : Leads old.unfolder.stage [] after) → PassLines map_ before source all after
    passing after leads = lines.PassLines.Passing source all old.unfolder.stage after stands.lines_are leads

    module _ (live : Live) (stage : Stage) (comes : Comes old.unfolder.stage live stage) where
      fault_so : line_fault map_ old.table old.counting live stage
          ≡ line_fault map_ (table_at map_ all) (counting_at map_ before all) live stage
      fault_so =
          ap (λ (t : Table). line_fault map_ t old.counting live stage) stands.table
          ∙ ap (λ (c : Counting). line_fault map_ (table_at map_ all) c live stage) stands.counting

      placing : line_fault map_ old.table old.counting live stage ≡ None
          → PassLines map_ before source (all ++ numbered (length source) (given_by (table_at map_ all) live stage) ∷ [])
          (acted (table_at map_ all) live stage)
      placing fits =
          lines.PassLines.Placing source all comes.middle stage live (passing comes.middle comes.passing) comes.is_within comes.gives
          (sym fault_so ∙ fits)

      pub exceeds : (fault : AsmFault) → line_fault map_ old.table old.counting live stage ≡ Some fault
          → Exceeds map_ before source all fault
      exceeds fault refused =
          reaching.Exceeds.AtLine comes.middle stage live (passing comes.middle comes.passing) comes.is_within comes.gives
          (sym fault_so ∙ refused)

      of_line : (fault : AsmFault) → line_fault map_ old.table old.counting live stage ≡ Some fault → IsOfPass fault
      of_line fault refused = line_fault_is_of_pass map_ old.table old.counting live stage fault refused

      lacks : LacksMemory map_ old.table old.counting live stage → MayLackMemory map_ before source all
      lacks here =
          let T : Table → Type 0 = λ t. LacksMemory map_ t old.counting live stage in
          let C : Counting → Type 0 = λ c. LacksMemory map_ (table_at map_ all) c live stage in
          reaching.MayLackMemory.AtLine comes.middle stage live (passing comes.middle comes.passing) comes.is_within comes.gives
          (subst C stands.counting (subst T stands.table here))

      fails_so : (fault : AsmFault) → FailsAtLine map_ old.table old.counting live stage fault
          → Refused map_ before source all fault
      fails_so NoMemory fails = lacks fails
      fails_so Read fails = of_line Read fails
      fails_so (Write output) fails = of_line (Write output) fails
      fails_so TooMuchSource fails = of_line TooMuchSource fails
      fails_so other fails = exceeds other fails

    places : (new : PassState) (live : Live) (said : LineFact) → PlacesNext map_ old new live said → PlacesLine map_ before source all new live said
    places new live said next =
        let here : PlacesAfter map_ live next.stage old new said = next.places in
        let one = given_by (table_at map_ all) live next.stage in
        let P : Stage → Type 0 = λ s. PassLines map_ before source (all ++ numbered (length source) one ∷ []) s in
        let S : Table → Type 0 = λ t. said t (given_by t live next.stage) in
        record {
          stage = next.stage;
          stands = record {
            lines_are = subst P (sym (here.leaves.stage_is ∙ ap (λ (t : Table). acted t live next.stage) stands.table))
                (placing live next.stage next.comes here.leaves.fits);
            table = here.leaves.table ∙ ap (λ (t : Table). after_line map_ t (given_by t live next.stage)) stands.table
                ∙ sym (table_more all (numbered (length source) one));
            counting = here.leaves.counting
                ∙ ap (λ (t : Table). with_counted (symbol_uses t (given_by t live next.stage)) old.counting) stands.table
                ∙ ap (with_counted (symbol_uses (table_at map_ all) one)) stands.counting
                ∙ sym (all_more all (numbered (length source) one));
          };
          is_said = subst S stands.table here.is_said;
          may_lack = lacks live next.stage next.comes (faults.LacksMemory.AfterLimits here.leaves.fits);
        }

    before_line : (fault : UnfoldFault) → Stops old.unfolder.stage fault → Refused map_ before source all (of_unfolding fault)
    before_line limit.TooDeep stops =
        reaching.Exceeds.BeforeLine stops.middle limit.TooDeep (passing stops.middle stops.passing) stops.passes refl
    before_line limit.TooManyLines stops =
        reaching.Exceeds.BeforeLine stops.middle limit.TooManyLines (passing stops.middle stops.passing) stops.passes refl
    before_line limit.TooMuchText stops =
        reaching.Exceeds.BeforeLine stops.middle limit.TooMuchText (passing stops.middle stops.passing) stops.passes refl
    before_line limit.TooManyMacros stops =
        reaching.Exceeds.BeforeLine stops.middle limit.TooManyMacros (passing stops.middle stops.passing) stops.passes refl
    before_line limit.NoMemory stops =
        reaching.MayLackMemory.BeforeLine stops.middle (passing stops.middle stops.passing) stops.passes.0 stops.passes.1

    refused : (fault : AsmFault) → FailsAt map_ old fault → Refused map_ before source all fault
    refused fault (turning.FailsAt.BeforeLine inner is stops) =
        let P : AsmFault → Type 0 = λ f. Refused map_ before source all f in subst P (sym is) (before_line inner stops)
    refused fault (turning.FailsAt.AtLine live stage comes fails) =
        fails_so live stage comes fault fails

    turned : (new : PassState) (live : Live) (said : LineFact) (result : Result Turn AsmFault) → Turns map_ old new live said result
        → Reaches map_ before source all new live said result
    turned new live said (Ok NeedLine) (stepped, unplaced) =
        (rests new unplaced (passing new.unfolder.stage stepped.0), stepped.1, stepped.2)
    turned new live said (Ok End) (stepped, unplaced) = (rests new unplaced (passing new.unfolder.stage stepped.0), stepped.1)
    turned new live said (Ok Line) next = places new live said next
    turned new live said (Err fault) fails = refused fault fails

turns : (map_ : Map) (before : Counting) (source : List SourceLine) (all : List NumberedLine) (old new : PassState)
    (live : Live) (said : LineFact) (result : Result Turn AsmFault) → PassAfter map_ before source all old
    → Turns map_ old new live said result → Reaches map_ before source all new live said result
turns map_ before source all old new live said result stands turned_so =
    turned map_ before source all old stands new live said result turned_so

pub next_turns : (map_ : Map) (before : Counting) (source : List SourceLine) (all : List NumberedLine) (old new : PassState)
    (placed : PlacedLine) (result : Result Turn AsmFault) → PassAfter map_ before source all old
    → Turns map_ old new (live_in placed.live) (SaysPlaced map_ placed new.emission) result
    → Reaches map_ before source all new (live_in placed.live) (SaysPlaced map_ placed new.emission) result
next_turns map_ before source all old new placed result stands turned_so =
    turns map_ before source all old new (live_in placed.live) (SaysPlaced map_ placed new.emission) result stands turned_so

pub define_turns : (before : Counting) (source : List SourceLine) (all : List NumberedLine) (old new : PassState)
    (live : LiveLine) (result : Result Turn AsmFault) → PassAfter empty_map before source all old
    → Turns empty_map old new (live_in live) (SaysLive live) result
    → Reaches empty_map before source all new (live_in live) (SaysLive live) result
define_turns before source all old new live result stands turned_so =
    turns empty_map before source all old new (live_in live) (SaysLive live) result stands turned_so

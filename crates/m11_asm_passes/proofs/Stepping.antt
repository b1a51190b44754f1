-- A pass over one list of lines goes step by step: each of its states has at most one next state.
use Rattle.std.proofs.Common.{◌≡◌, ◌∙◌, Bool, true, false, List, [], ◌∷◌, ◌++◌, length, append_assoc, Option, Some, None, refl, sym, ap, subst}
use Rattle.std.specs.Prelude.{if◌then◌else◌}
use Rattle.m11_asm_faults.specs.declared.fault.AsmFault.{AsmFault}
use Rattle.m11_unfold_bodies.specs.Left.{RemainingItem}
use Rattle.m11_scan.specs.Line.{SourceLine}
use Rattle.m11_asm_lines.specs.declared.counting.Counting.{Counting}
use Rattle.m11_asm_passes.specs.Lines.{NumberedLine, PassLines, acted, counting_at, numbered, table_at, with_line}
use Rattle.m11_asm_passes.specs.Lines as lines
use Rattle.m11_asm_passes.specs.Refusals.{given_by, line_fault}
use Rattle.m11_asm_rules.specs.Meanings.{Map}
use Rattle.m11_unfold_rules.specs.Limits.{next_fault}
use Rattle.m11_unfold_rules.specs.Stages.{Stage, start}
use Rattle.m11_unfold_rules.specs.Taking.{Gives, Live, Move, Passes, NothingLeft, move}
use Rattle.m11_unfold_rules.specs.Unfolding.{UnfoldedLine, Leads}
use Rattle.m11_unfold_rules.specs.Unfolding as steps
use Rattle.m11_unfold_rules.specs.declared.fault.UnfoldFault.{UnfoldFault}
use Rattle.m11_unfold_rules.proofs.Cases.{fault_from, move_from}
use Rattle.m11_asm_passes.proofs.Onward.{Onward}
use Rattle.m11_asm_passes.proofs.Onward as onward

-- the lines read and those not yet read, the live lines so far, and the stage of unfolding
pub record At : Type 0 where
  pub source : List SourceLine
  pub more : List SourceLine
  pub lines : List NumberedLine
  pub stage : Stage

abbrev pub at : List SourceLine → List SourceLine → List NumberedLine → Stage → At
at source more all stage = record { source = source; more = more; lines = all; stage = stage }

-- the state before the first line is read
abbrev pub begin : List SourceLine → At
begin all = at [] all [] (start [])

-- ---- if nothing is left or `.END` is live, no limit is exceeded and nothing is read

pub ended_fits : (stage : Stage) → stage.has_ended ≡ true → next_fault stage ≡ None
ended_fits stage ended = ap (λ (b : Bool). if b then None else fault_from stage.left stage) ended

pub ended_rests : (stage : Stage) → stage.has_ended ≡ true → move stage ≡ NothingLeft
ended_rests stage ended = ap (λ (b : Bool). if b then NothingLeft else move_from stage.left stage) ended

pub none_fits : (stage : Stage) → stage.left ≡ [] → stage.has_ended ≡ false → next_fault stage ≡ None
none_fits stage none goes =
    ap (λ (b : Bool). if b then None else fault_from stage.left stage) goes ∙ ap (λ (l : List RemainingItem). fault_from l stage) none

pub none_rests : (stage : Stage) → stage.left ≡ [] → stage.has_ended ≡ false → move stage ≡ NothingLeft
none_rests stage none goes =
    ap (λ (b : Bool). if b then NothingLeft else move_from stage.left stage) goes ∙ ap (λ (l : List RemainingItem). move_from l stage) none

-- the state after one more line of the source is read; None if no line is left or `.END` is live
abbrev pub reads : Bool → List SourceLine → At → Option At
reads true more here = None
reads false [] here = None
reads false (line ∷ more) here = Some (at (here.source ++ line ∷ []) more here.lines (with_line line here.stage))

module _ (map_ : Map) (counting : Counting) where
  -- ---- a step

  -- the state after a live line is placed; None if the line exceeds a limit
  abbrev pub places : Option AsmFault → Live → Stage → At → Option At
  places (Some fault) live after here = None
  places None live after here = Some
      (at here.source here.more
      (here.lines ++ numbered (length here.source) (given_by (table_at map_ here.lines) live after) ∷ [])
      (acted (table_at map_ here.lines) live after))

  -- the next state after a move, if there is one
  abbrev pub moves_by : Move → At → Option At
  moves_by NothingLeft here = reads here.stage.has_ended here.more here
  moves_by (Passes after) here = Some (at here.source here.more here.lines after)
  moves_by (Gives live after) here =
      places (line_fault map_ (table_at map_ here.lines) (counting_at map_ counting here.lines) live after) live after here

  -- the next state, if there is one; None if the next move exceeds a limit
  abbrev pub within : Option UnfoldFault → At → Option At
  within (Some fault) here = None
  within None here = moves_by (move here.stage) here

  -- the next state, if there is one
  unfoldable pub step : At → Option At
  step here = within (next_fault here.stage) here

  abbrev pub LeadsTo : At → At → Type 0
  LeadsTo before after = Onward At step before after

  -- ---- if no limit is exceeded, the move decides the step

  pub moved : (here : At) (next : Move) → next_fault here.stage ≡ None → move here.stage ≡ next → step here ≡ moves_by next here
  unfolding step
  moved here next fits moves =
      ap (λ (f : Option UnfoldFault). within f here) fits ∙ ap (λ (m : Move). moves_by m here) moves

  -- if a limit is exceeded before the next live line, there is no next state
  pub exceeds_before : (here : At) (fault : UnfoldFault) → next_fault here.stage ≡ Some fault → step here ≡ None
  unfolding step
  exceeds_before here fault exceeds = ap (λ (f : Option UnfoldFault). within f here) exceeds

  -- if the next live line exceeds a limit, there is no next state
  pub exceeds_at : (here : At) (live : Live) (after : Stage) (fault : AsmFault) → next_fault here.stage ≡ None
      → move here.stage ≡ Gives live after
      → line_fault map_ (table_at map_ here.lines) (counting_at map_ counting here.lines) live after ≡ Some fault → step here ≡ None
  exceeds_at here live after fault fits moves exceeds =
      moved here (Gives live after) fits moves ∙ ap (λ (f : Option AsmFault). places f live after here) exceeds

  -- ---- if nothing is left or `.END` is live

  pub ended_stops : (here : At) → here.stage.has_ended ≡ true → step here ≡ None
  ended_stops here ended =
      moved here NothingLeft (ended_fits here.stage ended) (ended_rests here.stage ended)
      ∙ ap (λ (b : Bool). reads b here.more here) ended

  pub read_stops : (here : At) → here.more ≡ [] → here.stage.left ≡ [] → here.stage.has_ended ≡ false → step here ≡ None
  read_stops here all none goes =
      moved here NothingLeft (none_fits here.stage none goes) (none_rests here.stage none goes)
      ∙ ap (λ (b : Bool). reads b here.more here) goes ∙ ap (λ (ls : List SourceLine). reads false ls here) all

  line_read : (source more : List SourceLine) (all : List NumberedLine) (stage : Stage) (line : SourceLine) → stage.left ≡ []
      → stage.has_ended ≡ false
      → step (at source (line ∷ more) all stage) ≡ Some (at (source ++ line ∷ []) more all (with_line line stage))
  line_read source more all stage line none goes =
      let here : At = at source (line ∷ more) all stage in
      moved here NothingLeft (none_fits stage none goes) (none_rests stage none goes)
      ∙ ap (λ (b : Bool). reads b (line ∷ more) here) goes

  line_placed : (source more : List SourceLine) (all : List NumberedLine) (stage after : Stage) (live : Live) → next_fault stage ≡ None
      → move stage ≡ Gives live after → line_fault map_ (table_at map_ all) (counting_at map_ counting all) live after ≡ None
      → step (at source more all stage) ≡ Some (at source more
      (all ++ numbered (length source) (given_by (table_at map_ all) live after) ∷ []) (acted (table_at map_ all) live after))
  line_placed source more all stage after live fits moves placed =
      let here : At = at source more all stage in
      moved here (Gives live after) fits moves ∙ ap (λ (f : Option AsmFault). places f live after here) placed

  -- ---- a pass over some of the lines makes these steps

  not_empty : (done : List UnfoldedLine) (one : UnfoldedLine) → done ++ one ∷ [] ≡ [] → ⊥
  not_empty [] one none = cc
  not_empty (first ∷ done) one none = cc

  -- a state that is reached still is after moves by which no line becomes live
  passed_on : (before : At) (source more : List SourceLine) (all : List NumberedLine) (stage after : Stage) (done : List UnfoldedLine)
      → Leads stage done after → done ≡ [] → LeadsTo before (at source more all stage) → LeadsTo before (at source more all after)
  passed_on before source more all stage _ _ steps.Leads.Stays none leads = leads
  passed_on before source more all stage after done (steps.Leads.Passing _ middle _ first fits moves) none leads =
      onward.Onward.Goes (at source more all middle) (at source more all after)
      (passed_on before source more all stage middle done first none leads)
      (moved (at source more all middle) (Passes after) fits moves)
  passed_on before source more all stage _ _ (steps.Leads.Giving done middle after live known first fits moves acts) none leads =
      absurd (not_empty done (steps.given known live after) none)

  pub reached : (all source more : List SourceLine) (placed : List NumberedLine) (stage : Stage) → PassLines map_ counting source placed stage
      → source ++ more ≡ all → LeadsTo (begin all) (at source more placed stage)
  reached all _ more _ _ lines.PassLines.Begins whole =
      let P : List SourceLine → Type 0 = λ ls. LeadsTo (begin ls) (at [] more [] (start [])) in
      subst P whole onward.Onward.Stays
  reached all _ more placed _ (lines.PassLines.Reading source _ stage line before none goes) whole =
      onward.Onward.Goes (at source (line ∷ more) placed stage) (at (source ++ line ∷ []) more placed (with_line line stage))
      (reached all source (line ∷ more) placed stage before (sym (append_assoc source (line ∷ []) more) ∙ whole))
      (line_read source more placed stage line none goes)
  reached all source more placed after (lines.PassLines.Passing _ _ stage _ before passed) whole =
      passed_on (begin all) source more placed stage after [] passed refl (reached all source more placed stage before whole)
  reached all source more _ _ (lines.PassLines.Placing _ placed stage after live before fits moves within_limits) whole =
      onward.Onward.Goes (at source more placed stage)
      (at source more (placed ++ numbered (length source) (given_by (table_at map_ placed) live after) ∷ [])
      (acted (table_at map_ placed) live after))
      (reached all source more placed stage before whole)
      (line_placed source more placed stage after live fits moves within_limits)

-- Each pass over lines reaches its end, or exceeds a limit.
use Rattle.std.proofs.Common.{◌≡◌, ◌∙◌, ◌<◌, ℕ, ◌+◌, zero, suc, Bool, true, false, List, [], ◌∷◌, ◌++◌, length, append_assoc, Option, Some, None, inl, inr, refl, sym, ap, arith}
use Rattle.m11_asm_faults.specs.Faults.{of_unfolding}
use Rattle.m11_asm_faults.specs.declared.fault.AsmFault.{AsmFault}
use Rattle.m11_unfold_bodies.specs.Left.{depth}
use Rattle.m11_scan.specs.Line.{SourceLine}
use Rattle.m11_asm_lines.specs.declared.counting.Counting.{Counting}
use Rattle.m11_asm_passes.specs.Lines.{NumberedLine, PassLines, acted, counting_at, numbered, table_at, with_line}
use Rattle.m11_asm_passes.specs.Lines as lines
use Rattle.m11_asm_passes.specs.Reaching as reaching
use Rattle.m11_asm_passes.specs.Refusals.{given_by, line_fault}
use Rattle.m11_asm_rules.specs.Meanings.{Map}
use Rattle.m11_unfold_rules.specs.Limits.{next_fault}
use Rattle.m11_unfold_rules.specs.Stages.{Stage, start}
use Rattle.m11_unfold_rules.specs.Taking.{Gives, Live, Move, Passes, NothingLeft, move}
use Rattle.m11_unfold_rules.specs.Unfolding as steps
use Rattle.m11_unfold_rules.specs.declared.fault.UnfoldFault.{UnfoldFault}
use Rattle.m11_asm_passes.proofs.Falling.{acts_falling, giving_falls, none_left, passing_falls, work_left}
use Rattle.m11_asm_passes.specs.Ends.{HasEnd}
use Rattle.m11_asm_passes.specs.Ends as ends

module _ (map_ : Map) (counting : Counting) (all : List SourceLine) where
  -- the number of lines still to be read, plus the work left in unfolding
  abbrev work : List SourceLine → Stage → ℕ
  work more stage = length more + work_left stage

  -- each pass with less than this left to do has an end
  abbrev Ends : ℕ → Type 0
  Ends most = (source more : List SourceLine) (placed : List NumberedLine) (stage : Stage) → PassLines map_ counting source placed stage
      → source ++ more ≡ all → work more stage < most → HasEnd map_ counting all

  module _ (most : ℕ) (further : Ends most) (source more : List SourceLine) (placed : List NumberedLine) (stage : Stage)
      (passes : PassLines map_ counting source placed stage) (whole : source ++ more ≡ all) (small : work more stage < suc most) where
    by_limit : (live : Live) (after : Stage) → next_fault stage ≡ None → move stage ≡ Gives live after → (fault : Option AsmFault)
        → line_fault map_ (table_at map_ placed) (counting_at map_ counting placed) live after ≡ fault → HasEnd map_ counting all
    by_limit live after fits moves (Some fault) exceeds =
        ends.HasEnd.AtLimit source placed fault (record {
          exceeds = reaching.Exceeds.AtLine stage after live passes fits moves exceeds;
          more = more;
          whole = whole;
        })
    by_limit live after fits moves None within =
        let less = giving_falls stage after live fits moves in
        let little = acts_falling (given_by (table_at map_ placed) live after).known after live.line.text in
        further source more (placed ++ numbered (length source) (given_by (table_at map_ placed) live after) ∷ [])
        (acted (table_at map_ placed) live after) (lines.PassLines.Placing source placed stage after live passes fits moves within) whole
        (omega (arith, less, little, small))

    by_more : stage.left ≡ [] → stage.has_ended ≡ false → (left : List SourceLine) → more ≡ left → HasEnd map_ counting all
    by_more none goes [] is =
        ends.HasEnd.AtEnd source placed stage (record { lines_are = passes; more = more; whole = whole; is_over = inr (is, none, goes) })
    by_more none goes (line ∷ left) is =
        let fewer : length more ≡ length left + 1 = ap length is ∙ (omega arith) in
        let shallow : depth stage.left ≡ 0 = ap depth none in
        further (source ++ line ∷ []) left placed (with_line line stage) (lines.PassLines.Reading source placed stage line passes none goes)
        (append_assoc source (line ∷ []) left ∙ ap (λ (ls : List SourceLine). source ++ ls) (sym is) ∙ whole)
        (omega (arith, fewer, shallow, small))

    by_rest : move stage ≡ NothingLeft → (has_ended : Bool) → stage.has_ended ≡ has_ended → HasEnd map_ counting all
    by_rest rests true ended =
        ends.HasEnd.AtEnd source placed stage (record { lines_are = passes; more = more; whole = whole; is_over = inl ended })
    by_rest rests false goes = by_more (none_left stage goes rests) goes more refl

    by_move : next_fault stage ≡ None → (next : Move) → move stage ≡ next → HasEnd map_ counting all
    by_move fits NothingLeft rests = by_rest rests stage.has_ended refl
    by_move fits (Passes after) moves =
        let less = passing_falls stage after fits moves in
        further source more placed after
        (lines.PassLines.Passing source placed stage after passes (steps.Leads.Passing [] stage after steps.Leads.Stays fits moves)) whole
        (omega (arith, less, small))
    by_move fits (Gives live after) moves =
        by_limit live after fits moves (line_fault map_ (table_at map_ placed) (counting_at map_ counting placed) live after) refl

    by_fault : (fault : Option UnfoldFault) → next_fault stage ≡ fault → HasEnd map_ counting all
    by_fault (Some fault) exceeds =
        ends.HasEnd.AtLimit source placed (of_unfolding fault) (record {
          exceeds = reaching.Exceeds.BeforeLine stage fault passes exceeds refl;
          more = more;
          whole = whole;
        })
    by_fault None fits = by_move fits (move stage) refl

    step_further : HasEnd map_ counting all
    step_further = by_fault (next_fault stage) refl

  ends_within : (most : ℕ) → Ends most
  ends_within zero source more placed stage passes whole small = absurd (omega (arith, small))
  ends_within (suc most) source more placed stage passes whole small =
      step_further most (ends_within most) source more placed stage passes whole small

  pub has_end : HasEnd map_ counting all
  has_end = ends_within (work all (start []) + 1) [] all [] (start []) lines.PassLines.Begins refl (omega arith)

-- Each pass over a reading ends or is refused, so two readings have an outcome.
use Rattle.std.proofs.Common.{◌≡◌, ◌∙◌, true, false, List, [], ◌++◌, append-nil, Option, Some, None, inl, inr, refl, sym, ap, subst}
use Rattle.std.specs.Prelude.{◌⊎◌}
use Rattle.m11_asm.specs.Outcome as outcome
use Rattle.m11_asm.specs.Outcome.{Ends, HasOutcome, Outcome, Refused, Assembled, Refuses, Unended}
use Rattle.m11_asm_faults.specs.Faults.{of_lines}
use Rattle.m11_asm_faults.specs.declared.fault.AsmFault.{AsmFault}
use Rattle.m11_scan.specs.Line.{SourceLine}
use Rattle.m11_scan.specs.declared.fault.LineFault.{LineFault}
use Rattle.m11_asm_passes.specs.Ends.{EndsAfter, HasEnd, IsOver}
use Rattle.m11_asm_passes.specs.Ends as ends
use Rattle.m11_asm_passes.specs.Lines.{NumberedLine, PassLines, givens}
use Rattle.m11_asm_rules.specs.Meanings.{Map, empty_map}
use Rattle.m11_scan_line_laws.specs.Readings.{Reading}
use Rattle.m11_asm.specs.Program.{Program, program_of}
use Rattle.m11_asm.specs.Written.{EndOfSource, flagged_count, program_writes, written}
use Rattle.m11_unfold_rules.specs.Stages.{Stage}
use Rattle.m11_asm_outcome_laws.proofs.OnePass.{ended_at}
use Rattle.m11_asm_lines.specs.declared.counting.Counting.{Counting}
use Rattle.m11_asm_lines.specs.declared.counting.Counting.TheVariants.{Definitions}
use Rattle.m11_asm_lines.specs.Counting.{none_used}

-- each pass over lines reaches its end, or exceeds a limit
abbrev pub EachEnds : Type 0
EachEnds = (map : Map) (counting : Counting) (all : List SourceLine) → HasEnd map counting all

-- a pass over a reading ends, or is refused
abbrev pub Comes : Map → Counting → Reading → Type 0
Comes map counting reading = ((lines : List NumberedLine) × (ended : EndOfSource) × Ends map counting reading lines ended)
    ⊎ ((lines : List NumberedLine) × (fault : AsmFault) × Refuses map counting reading lines fault)

module _ (map_ : Map) (counting : Counting) (reading : Reading) where
  by_fault : (lines : List NumberedLine) → Unended map_ counting reading.lines lines → (came : Option LineFault) → reading.fault ≡ came
      → Comes map_ counting reading
  by_fault lines u None none = inl (lines, ended_at reading.lines false, outcome.Ends.WithoutEnd u none refl)
  by_fault lines u (Some fault) stops = inr (lines, of_lines fault, outcome.Refuses.AtReading fault stops refl u)

  module _ (source : List SourceLine) (lines : List NumberedLine) (stage : Stage) (e : EndsAfter map_ counting reading.lines source lines stage) where
    all_read : e.more ≡ [] → source ≡ reading.lines
    all_read none = sym (append-nil source) ∙ ap (λ (ls : List SourceLine). source ++ ls) (sym none) ∙ e.whole

    unended : e.more ≡ [] → stage.left ≡ [] → stage.has_ended ≡ false → Unended map_ counting reading.lines lines
    unended none left goes = record {
      stage = stage;
      live = subst (λ (ls : List SourceLine). PassLines map_ counting ls lines stage) (all_read none) e.lines_are;
      left = left;
      goes_on = goes;
    }

    by_end : IsOver e.more stage → Comes map_ counting reading
    by_end (inl ended) = inl (lines, ended_at source true, outcome.Ends.AtEnd source e.more stage (sym e.whole) e.lines_are ended refl)
    by_end (inr (none, left, goes)) = by_fault lines (unended none left goes) reading.fault refl

  pub comes_by : HasEnd map_ counting reading.lines → Comes map_ counting reading
  comes_by (ends.HasEnd.AtEnd source lines stage e) = by_end source lines stage e e.is_over
  comes_by (ends.HasEnd.AtLimit source lines limit x) =
      inr (lines, limit, outcome.Refuses.AtLimit source x.more limit (sym x.whole) x.exceeds refl)

module _ (each : EachEnds) (first second : Reading) where
  by_second : (lines : List NumberedLine) (ended : EndOfSource) (program : Program) → Ends empty_map none_used first lines ended
      → program ≡ program_of (givens lines) → Comes program.map Definitions second
      → (all : Outcome) × HasOutcome first second all
  by_second lines ended program ends is (inl (others, end, ends')) = (
    Assembled (program_writes program others end) (flagged_count program others end.has_end),
    outcome.HasOutcome.Assembles lines ended program others end ends is ends',
  )
  by_second lines ended program ends is (inr (others, fault, refuses)) = (
    Refused fault (written program others),
    outcome.HasOutcome.SecondRefuses lines ended program others fault ends is refuses,
  )

  by_first : Comes empty_map none_used first → (all : Outcome) × HasOutcome first second all
  by_first (inl (lines, ended, ends)) =
      let program : Program = program_of (givens lines) in
      by_second lines ended program ends refl
      (comes_by program.map Definitions second (each program.map Definitions second.lines))
  by_first (inr (lines, fault, refuses)) = (Refused fault [], outcome.HasOutcome.FirstRefuses lines fault refuses)

  pub has_outcome : (all : Outcome) × HasOutcome first second all
  has_outcome = by_first (comes_by empty_map none_used first (each empty_map none_used first.lines))

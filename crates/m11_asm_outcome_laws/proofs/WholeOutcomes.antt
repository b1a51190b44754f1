-- Outcomes follow from the unfolding of whole sources.
use Rattle.std.proofs.Common.{◌≡◌, ◌∙◌, true, false, List, [], ◌++◌, append-nil, length, inl, inr, refl, sym, ap, subst}
use Rattle.m11_asm.specs.Outcome as outcome
use Rattle.m11_asm.specs.Outcome.{Ends, HasOutcome, Outcome, Refuses}
use Rattle.m11_asm.specs.Program.{Program, program_of}
use Rattle.m11_asm.specs.Written.{EndOfSource}
use Rattle.m11_asm_faults.specs.declared.fault.AsmFault.{AsmFault}
use Rattle.m11_scan.specs.Line.{SourceLine}
use Rattle.m11_asm_outcome_laws.specs.AllLines.{AreAllLines, AreWithinLimits}
use Rattle.m11_asm_outcome_laws.specs.FirstFaults.{AreAllRead, IsRefusedAfter}
use Rattle.m11_asm_outcome_laws.specs.Numbers.{HaveNumbers}
use Rattle.m11_asm_outcome_laws.specs.WholeSources.{IsOfWholeSources, IsProgramOf}
use Rattle.m11_asm_passes.specs.Ends.{EndsAfter}
use Rattle.m11_asm_passes.specs.Lines.{NumberedLine, PassLines, givens}
use Rattle.m11_asm_passes.specs.Reaching as reaching
use Rattle.m11_asm_passes.specs.Reaching.{Exceeds}
use Rattle.m11_asm_rules.specs.Meanings.{Map, empty_map}
use Rattle.m11_asm_rules.specs.Tables.{first_table}
use Rattle.m11_scan_line_laws.specs.Readings.{Reading}
use Rattle.m11_unfold_rules.specs.Histories.{with_more}
use Rattle.m11_unfold_rules.specs.Stages.{Stage}
use Rattle.m11_asm_lines.specs.declared.counting.Counting.{Counting}
use Rattle.m11_asm_lines.specs.declared.counting.Counting.TheVariants.{Definitions}
use Rattle.m11_asm_lines.specs.Counting.{none_used}

-- three parts of the law of the lines of a pass, and the law of refusals
abbrev pub Limits : Type 0
Limits = (map : Map) (counting : Counting) (source : List SourceLine) (lines : List NumberedLine) (stage : Stage)
    → PassLines map counting source lines stage → AreWithinLimits map first_table counting (givens lines)

abbrev pub AllLines : Type 0
AllLines = (map : Map) (counting : Counting) (all source : List SourceLine) (lines : List NumberedLine) (stage : Stage)
    (end : EndsAfter map counting all source lines stage) → AreAllLines map all (givens lines) (with_more end.more stage)

abbrev pub Numbers : Type 0
Numbers = (map : Map) (counting : Counting) (source more : List SourceLine) (lines : List NumberedLine) (stage : Stage)
    → PassLines map counting source lines stage → HaveNumbers map (source ++ more) lines

abbrev pub Refusals : Type 0
Refusals = (map : Map) (counting : Counting) (reading : Reading) (lines : List NumberedLine) (fault : AsmFault)
    → Refuses map counting reading lines fault → IsRefusedAfter map counting reading (givens lines) fault

-- these are all the live lines of a reading, with their numbers, and this is the end of the reading
record IsWhole (map : Map) (counting : Counting) (reading : Reading) (lines : List NumberedLine) (ended : EndOfSource) : Type 0 where
  stage : Stage
  all : AreAllRead map counting reading (givens lines) stage
  numbers : HaveNumbers map reading.lines lines
  has_end : ended.has_end ≡ stage.has_ended
  read : stage.has_ended ≡ false → ended.read ≡ length reading.lines

module _ (limits : Limits) (all_lines : AllLines) (number : Numbers) (refuse : Refusals) where
  module _ (map : Map) (counting : Counting) (reading : Reading) (lines : List NumberedLine) where
    numbered_in : (source more : List SourceLine) (stage : Stage) → reading.lines ≡ source ++ more
        → PassLines map counting source lines stage → HaveNumbers map reading.lines lines
    numbered_in source more stage parts passes =
        let P : List SourceLine → Type 0 = λ s. HaveNumbers map s lines in
        subst P (sym parts) (number map counting source more lines stage passes)

    whole : (ended : EndOfSource) → Ends map counting reading lines ended → IsWhole map counting reading lines ended
    whole ended (outcome.Ends.AtEnd source more stage parts passes came is) =
        let end : EndsAfter map counting reading.lines source lines stage
        = record { lines_are = passes; more = more; whole = sym parts; is_over = inl came } in record {
          stage = with_more more stage;
          all = record {
            are = all_lines map counting reading.lines source lines stage end;
            limits = limits map counting source lines stage passes;
            unless_end = λ goes. absurd (let bad : true ≡ false = sym came ∙ goes in cc);
          };
          numbers = numbered_in source more stage parts passes;
          has_end = ap (λ (e : EndOfSource). e.has_end) is ∙ sym came;
          read = λ goes. absurd (let bad : true ≡ false = sym came ∙ goes in cc);
        }
    whole ended (outcome.Ends.WithoutEnd unended none is) =
        let end : EndsAfter map counting reading.lines reading.lines lines unended.stage = record {
          lines_are = unended.live;
          more = [];
          whole = append-nil reading.lines;
          is_over = inr (refl, unended.left, unended.goes_on);
        } in record {
          stage = with_more [] unended.stage;
          all = record {
            are = all_lines map counting reading.lines reading.lines lines unended.stage end;
            limits = limits map counting reading.lines lines unended.stage unended.live;
            unless_end = λ goes. none;
          };
          numbers = numbered_in reading.lines [] unended.stage (sym (append-nil reading.lines)) unended.live;
          has_end = ap (λ (e : EndOfSource). e.has_end) is ∙ sym unended.goes_on;
          read = λ goes. ap (λ (e : EndOfSource). e.read) is;
        }

    exceeded : (source more : List SourceLine) (limit : AsmFault) → reading.lines ≡ source ++ more
        → Exceeds map counting source lines limit → HaveNumbers map reading.lines lines
    exceeded source more limit parts (reaching.Exceeds.BeforeLine stage inner passes exceeds is) =
        numbered_in source more stage parts passes
    exceeded source more limit parts (reaching.Exceeds.AtLine stage after live passes fits moves exceeds) =
        numbered_in source more stage parts passes

    refused : (stopped : AsmFault) → Refuses map counting reading lines stopped → HaveNumbers map reading.lines lines
    refused stopped (outcome.Refuses.AtReading fault found is unended) =
        numbered_in reading.lines [] unended.stage (sym (append-nil reading.lines)) unended.live
    refused stopped (outcome.Refuses.AtLimit source more limit parts exceeds is) = exceeded source more limit parts exceeds

  programmed : (reading : Reading) (lines : List NumberedLine) (ended : EndOfSource) (program : Program)
      → Ends empty_map none_used reading lines ended → program ≡ program_of (givens lines) → IsProgramOf reading program
  programmed reading lines ended program ends is =
      let these : IsWhole empty_map none_used reading lines ended = whole empty_map none_used reading lines ended ends in
      record { gives = givens lines; stage = these.stage; all = these.all; is = is }

  pub of_whole : (first second : Reading) (outcome : Outcome) → HasOutcome first second outcome → IsOfWholeSources first second outcome
  of_whole first second _ (outcome.HasOutcome.FirstRefuses lines fault refuses) =
      inl (givens lines, refuse empty_map none_used first lines fault refuses, refl)
  of_whole first second _ (outcome.HasOutcome.SecondRefuses lines ended program others fault ends is refuses) =
      inr (
        program,
        programmed first lines ended program ends is,
        record {
          lines = others;
          refused = refuse program.map Definitions second others fault refuses;
          numbers = refused program.map Definitions second others fault refuses;
          are = refl;
        },
      )
  of_whole first second _ (outcome.HasOutcome.Assembles lines ended program others end ends is all) =
      let these : IsWhole program.map Definitions second others end = whole program.map Definitions second others end all in (
        program,
        programmed first lines ended program ends is,
        record {
          lines = others;
          ended = end;
          stage = these.stage;
          all = these.all;
          numbers = these.numbers;
          has_end = these.has_end;
          read = these.read;
          are = refl;
          count = refl;
        },
      )

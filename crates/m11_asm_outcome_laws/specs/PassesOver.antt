-- What a pass over a reading comes to, as a function of the reading, of the map and of the names counted before the first line. (MACRO-11
-- Language Reference Manual, "Source program format", "Macro directives" and ".END directive".)
use Rattle.std.specs.Prelude.{ℕ, ◌+◌, ◌*◌, true, false, if◌then◌else◌, List, [], ◌∷◌, ◌++◌, length, zero, suc, Option, Some, None, Result, Ok, Err}
use Rattle.m11_asm.specs.Outcome.{Ends, Refuses}
use Rattle.m11_asm.specs.Written.{EndOfSource}
use Rattle.m11_asm_faults.specs.Faults.{of_lines, of_unfolding}
use Rattle.m11_asm_faults.specs.declared.fault.AsmFault.{AsmFault}
use Rattle.m11_asm_lines.specs.declared.counting.Counting.{Counting}
use Rattle.m11_asm_passes.specs.Lines.{NumberedLine, acted, counting_at, numbered, table_at, with_line}
use Rattle.m11_asm_passes.specs.Refusals.{given_by, line_fault}
use Rattle.m11_asm_rules.specs.Meanings.{Map}
use Rattle.m11_scan.specs.Line.{SourceLine}
use Rattle.m11_scan.specs.declared.fault.LineFault.{LineFault}
use Rattle.m11_scan_line_laws.specs.Readings.{Reading}
use Rattle.m11_unfold_rules.specs.Limits.{most_lines, next_fault}
use Rattle.m11_unfold_rules.specs.Stages.{Stage, start}
use Rattle.m11_unfold_rules.specs.Taking.{Gives, Live, Move, NothingLeft, Passes, move}
use Rattle.m11_unfold_rules.specs.declared.fault.UnfoldFault.{UnfoldFault}

-- a pass over a reading: its live lines, and then its end, or the fault that refuses it
pub record PassOver : Type 0 where
  pub lines : List NumberedLine
  pub result : Result EndOfSource AsmFault

abbrev pub ended_after : List NumberedLine → EndOfSource → PassOver
ended_after lines end = record { lines = lines; result = Ok end }

abbrev pub refused_after : List NumberedLine → AsmFault → PassOver
refused_after lines fault = record { lines = lines; result = Err fault }

-- where a pass stands: how many lines it has read, the lines still to be read, the live lines so far, and the stage of its unfolding
pub record Place : Type 0 where
  pub read : ℕ
  pub more : List SourceLine
  pub lines : List NumberedLine
  pub stage : Stage

abbrev pub place : ℕ → List SourceLine → List NumberedLine → Stage → Place
place read more lines stage = record { read = read; more = more; lines = lines; stage = stage }

-- In the definitions below `onward` is what a pass comes to from a further place.

-- all lines were read, and nothing is left to unfold: the pass ends, or is refused where the reading stopped with a fault
abbrev pub all_read : Option LineFault → Place → PassOver
all_read None at = ended_after at.lines (record { read = at.read; has_end = false })
all_read (Some fault) at = refused_after at.lines (of_lines fault)

-- nothing is left to unfold: the next line is read, if there is one
abbrev pub line_read : (Place → PassOver) → Option LineFault → Place → List SourceLine → PassOver
line_read onward stops at [] = all_read stops at
line_read onward stops at (line ∷ more) = onward (place (at.read + 1) more at.lines (with_line line at.stage))

-- a line becomes live: it exceeds this limit, or is placed
abbrev pub line_placed : (Place → PassOver) → Map → Place → Live → Stage → Option AsmFault → PassOver
line_placed onward map at live after (Some fault) = refused_after at.lines fault
line_placed onward map at live after None = onward (place at.read at.more
    (at.lines ++ numbered at.read (given_by (table_at map at.lines) live after) ∷ [])
    (acted (table_at map at.lines) live after))

-- no limit of unfolding is exceeded by this next move
abbrev pub moved : (Place → PassOver) → Map → Counting → Option LineFault → Place → Move → PassOver
moved onward map counting stops at NothingLeft =
    if at.stage.has_ended then ended_after at.lines (record { read = at.read; has_end = true })
    else line_read onward stops at at.more
moved onward map counting stops at (Passes after) = onward (place at.read at.more at.lines after)
moved onward map counting stops at (Gives live after) = line_placed onward map at live after
    (line_fault map (table_at map at.lines) (counting_at map counting at.lines) live after)

-- the next move exceeds this limit of unfolding, or none
abbrev pub limited : (Place → PassOver) → Map → Counting → Option LineFault → Place → Option UnfoldFault → PassOver
limited onward map counting stops at (Some fault) = refused_after at.lines (of_unfolding fault)
limited onward map counting stops at None = moved onward map counting stops at (move at.stage)

-- what a pass comes to from this place, by fewer than this many moves and lines
abbrev pub passed : ℕ → Map → Counting → Option LineFault → Place → PassOver
passed zero map counting stops at = all_read stops at
passed (suc bound) map counting stops at = limited (passed bound map counting stops) map counting stops at (next_fault at.stage)

-- What a pass over a reading comes to. It reads at most `most_lines` lines and bodies' lines; each of them opens at most one expansion, whose
-- end is one more move.
unfoldable pub pass_over : Map → Counting → Reading → PassOver
pass_over map counting reading = passed (length reading.lines + 2 * most_lines + 1) map counting reading.fault
    (place 0 reading.lines [] (start []))

-- a pass over a reading comes to this
abbrev pub PassComesTo : Map → Counting → Reading → List NumberedLine → Result EndOfSource AsmFault → Type 0
PassComesTo map counting reading lines (Ok end) = Ends map counting reading lines end
PassComesTo map counting reading lines (Err fault) = Refuses map counting reading lines fault

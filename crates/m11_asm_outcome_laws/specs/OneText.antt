-- Two passes over one text. (MACRO-11 Language Reference Manual, "Symbols" and "Diagnostic error message summary". That the first pass
-- alone decides the outcome is this project's own choice.)
use Rattle.std.specs.Prelude.{◌≡◌, List, [], ◌∷◌, ◌++◌}
use Rattle.m11_asm.specs.Outcome.{Assembled, Ends, Outcome, Refused, Refuses}
use Rattle.m11_asm_passes.specs.Second.{moved_after}
use Rattle.m11_asm_passes.specs.Lines.{NumberedLine, givens}
use Rattle.m11_asm_rules.specs.Meanings.{empty_map}
use Rattle.m11_scan_line_laws.specs.Readings.{Reading}
use Rattle.m11_asm.specs.Program.{Program, program_of}
use Rattle.m11_asm.specs.Written.{EndOfSource, flagged_count, program_writes}
use Rattle.m11_asm_lines.specs.declared.counting.Counting.TheVariants.{Definitions}
use Rattle.m11_asm_lines.specs.Counting.{none_used}

-- the program of the live lines of the first pass
abbrev pub program_after : List NumberedLine → Program
program_after lines = program_of (givens lines)

-- the second pass has the live lines of the first one, up to the same end, and the map has the right location for each of their labels
pub record Repeats (reading : Reading) (lines : List NumberedLine) (ended : EndOfSource) : Type 0 where
  pub ends : Ends (program_after lines).map Definitions reading lines ended
  pub unmoved : (before more : List NumberedLine) (this : NumberedLine) → lines ≡ before ++ this ∷ more
      → moved_after (program_after lines).map before this ≡ 0

-- the first pass decides the outcome: either it is refused, and nothing is written; or the outputs of its live lines are written, and the
-- count of flagged lines is the one for these lines
abbrev pub IsDecidedByFirst : Reading → Outcome → Type 0
IsDecidedByFirst reading (Refused fault writes) = (writes ≡ []) × (lines : List NumberedLine) × Refuses empty_map none_used reading lines fault
IsDecidedByFirst reading (Assembled writes flagged) = (lines : List NumberedLine) × (ended : EndOfSource) × Ends empty_map none_used reading lines ended
    × (writes ≡ program_writes (program_after lines) lines ended) × (flagged ≡ flagged_count (program_after lines) lines ended.has_end)

-- Sources with as many sections as the limit allows, and with one more. (MACRO-11 Language Reference Manual, "Program section directives".)
use Rattle.std.specs.Prelude.{ℕ, zero, suc, ◌+◌, ◌/◌, ◌%◌, List, [], ◌∷◌, ◌++◌, codes, map, Option, Some, None}
use Rattle.m11_asm_faults.specs.declared.fault.AsmFault.{AsmFault}
use Rattle.m11_asm_faults.specs.declared.fault.AsmFault.TheVariants.{TooManySections}
use Rattle.m11_base.specs.Devices.{Bytes}
use Rattle.m11_asm_passes.specs.Lines.{counting_after}
use Rattle.m11_asm_passes.specs.Refusals.{placing_fault}
use Rattle.m11_asm_rules.specs.Meanings.{Map, empty_map}
use Rattle.m11_asm_rules.specs.Placements.{program_map, table_after}
use Rattle.m11_asm_rules.specs.Tables.{first_table}
use Rattle.m11_asm_lines.specs.Counting.{none_used}
use Rattle.m11_asm_lines.specs.declared.counting.Counting.{Counting}
use Rattle.m11_asm_lines.specs.declared.counting.Counting.TheVariants.{Definitions}
use Rattle.m11_asm_line_laws.specs.Worked.{plain}
use Rattle.m11_unfold_rules.specs.Unfolding.{UnfoldedLine}

-- a line that selects a section, a different one for each number
abbrev pub section_line : ℕ → Bytes
section_line number = codes ".PSECT S" ++ (0o101 + number / 16) ∷ (0o101 + number % 16) ∷ []

-- lines that select this many sections, besides the two that every source has
abbrev pub sections : ℕ → List Bytes
sections zero = []
sections (suc number) = section_line number ∷ sections number

-- the fault of a line after others that exceed no limit, if there is one
abbrev pub fault_after : Map → Counting → List UnfoldedLine → UnfoldedLine → Option AsmFault
fault_after map counting lines line = placing_fault map (table_after map lines) (counting_after map first_table lines counting) line

-- the fault of a line after others, in the first pass and in the second, if there is one
abbrev pub first_fault : List Bytes → Bytes → Option AsmFault
first_fault lines line = fault_after empty_map none_used (map plain lines) (plain line)

abbrev pub second_fault : List Bytes → Bytes → Option AsmFault
second_fault lines line = fault_after (program_map (map plain (line ∷ lines))) Definitions (map plain lines) (plain line)

abbrev pub faults : List (Option AsmFault)
faults =
    first_fault (sections 61) (section_line 61)
    ∷ first_fault (sections 62) (section_line 62)
    ∷ second_fault (sections 61) (section_line 61)
    ∷ second_fault (sections 62) (section_line 62)
    ∷ []

abbrev pub worked_faults : List (Option AsmFault)
worked_faults = None ∷ Some TooManySections ∷ None ∷ Some TooManySections ∷ []

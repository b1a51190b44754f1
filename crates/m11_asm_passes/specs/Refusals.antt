-- The first limit that a live line exceeds. The limits come in this order: those of its labels, those of unfolding its operator, and those
-- of what the operator uses and changes. (MACRO-11 Language Reference Manual, "Symbols", "Local symbols", "Program section directives" and
-- "Macro calls". The limits and their order are this project's own.)
use Rattle.std.specs.Prelude.{◌||◌, nat_lt, if◌then◌else◌, List, length, Option, Some, None, option_map}
use Rattle.std.specs.List.{flat_map}
use Rattle.std.specs.Option.{option_or}
use Rattle.m11_asm_faults.specs.Faults.{of_unfolding}
use Rattle.m11_asm_faults.specs.declared.fault.AsmFault.{AsmFault}
use Rattle.m11_asm_faults.specs.declared.fault.AsmFault.TheVariants.{TooManySymbols, TooManySections}
use Rattle.m11_base.specs.Devices.{Bytes}
use Rattle.m11_scan_statements.specs.Labels.{labels_at}
use Rattle.m11_unfold_rules.specs.Acting.{act_fault}
use Rattle.m11_unfold_rules.specs.Stages.{Stage}
use Rattle.m11_unfold_rules.specs.Taking.{Live}
use Rattle.m11_unfold_rules.specs.Unfolding.{UnfoldedLine, given}
use Rattle.m11_asm_rules.specs.Labels.{after_labels_in}
use Rattle.m11_asm_rules.specs.Limits as limits
use Rattle.m11_asm_rules.specs.Limits.{LimitFault, has_too_many, limit_fault, most_names}
use Rattle.m11_asm_rules.specs.Lines.{after_line}
use Rattle.m11_asm_rules.specs.Meanings.{Map}
use Rattle.m11_asm_rules.specs.SymbolUses.{SymbolUse, label_uses, symbol_uses}
use Rattle.m11_asm_rules.specs.Tables.{Table}
use Rattle.m11_asm_rules.specs.Unfolded.{known_after_labels}
use Rattle.m11_asm_lines.specs.Counting.{names_counted, with_counted}
use Rattle.m11_asm_lines.specs.declared.counting.Counting.{Counting}

abbrev pub of_limit : Option LimitFault → Option AsmFault
of_limit (Some limits.TooManySymbols) = Some TooManySymbols
of_limit (Some limits.TooManySections) = Some TooManySections
of_limit None = None

-- ---- labels

abbrev pub uses_of_labels : Bytes → List SymbolUse
uses_of_labels line = flat_map (label_uses line) (labels_at line)

abbrev pub labels_fault : Counting → Table → Bytes → Option AsmFault
labels_fault counting table line =
    if nat_lt most_names (length (names_counted (with_counted (uses_of_labels line) counting)))
    || has_too_many (after_labels_in table line) then Some TooManySymbols else None

-- ---- a line

-- a live line, with the symbols known from the table before it and from its own labels
abbrev pub given_by : Table → Live → Stage → UnfoldedLine
given_by table live stage = given (known_after_labels (after_labels_in table live.line.text)) live stage

abbrev pub placing_fault : Map → Table → Counting → UnfoldedLine → Option AsmFault
placing_fault map table counting given =
    of_limit (limit_fault (names_counted (with_counted (symbol_uses table given) counting)) (after_line map table given))

-- the fault of the first limit, if any, exceeded by a line that becomes live with this table and these counted names before it
abbrev pub line_fault : Map → Table → Counting → Live → Stage → Option AsmFault
line_fault map table counting live stage =
    option_or (labels_fault counting table live.line.text)
    (option_or (option_map of_unfolding (act_fault stage live.line.text)) (placing_fault map table counting (given_by table live stage)))

-- The names that a pass counts besides those that its table defines. Each pass counts anew. (MACRO-11 Language Reference Manual, "Symbols".
-- This project's own: a first pass counts all names that its lines define or only read, and a second one only those that it defines.)
use Rattle.std.specs.Prelude.{◌≡◌, ◌<◌, List, length, Result, Ok, Err}
use Rattle.m11_asm_faults.specs.declared.fault.AsmFault.{AsmFault}
use Rattle.m11_base.specs.Devices.{Bytes}
use Rattle.m11_base.specs.Rad50.{Name}
use Rattle.m11_scan_statements.specs.declared.labels.Label.{Label}
use Rattle.m11_asm_rules.specs.Limits.{most_names}
use Rattle.m11_asm_rules.specs.SymbolUses.{SymbolUse}
use Rattle.m11_asm_lines.specs.Faults.{Refuses}
use Rattle.m11_asm_lines.specs.Labels.{FitsUpToName}
use Rattle.m11_asm_lines.specs.UsedSymbols.{UsedNames, no_used_names, with_all}
use Rattle.m11_asm_lines.specs.declared.counting.Counting.{Counting}
use Rattle.m11_asm_lines.specs.declared.counting.Counting.TheVariants.{SymbolUses, Definitions}

-- the names counted before the first line of a first pass: none
abbrev pub none_used : Counting
none_used = SymbolUses no_used_names

-- the names that lines used so far; none in a second pass, which doesn't collect them
abbrev pub used_names_in : Counting → UsedNames
used_names_in (SymbolUses used_names) = used_names
used_names_in Definitions = no_used_names

abbrev pub names_counted : Counting → List Name
names_counted counting = (used_names_in counting).names

-- the names counted, with those that further uses of symbols add; a second pass doesn't count these
abbrev pub with_counted : List SymbolUse → Counting → Counting
with_counted symbol_uses (SymbolUses used_names) = SymbolUses (with_all symbol_uses used_names)
with_counted symbol_uses Definitions = Definitions

-- memory is refused for the name of a label, and the names counted up to and including that one are within their limit; a second pass counts
-- no names of labels
abbrev pub FitsUpToCounted : Bytes → List Label → Counting → Type 0
FitsUpToCounted line labels (SymbolUses used_names) = FitsUpToName line labels used_names
FitsUpToCounted line labels Definitions = ⊥

-- uses of symbols are counted, or refused with a fault: there would be too many names, or memory was refused
abbrev pub Counts : List SymbolUse → Counting → Counting → Result (Unit {0}) AsmFault → Type 0
Counts symbol_uses old new (Ok _) = new ≡ with_counted symbol_uses old
Counts symbol_uses old new (Err fault) = Refuses fault (most_names < length (names_counted (with_counted symbol_uses old))) ⊥

-- How many names, local symbols and sections a source may have. (MACRO-11 Language Reference Manual, "Symbols", "Local symbols" and
-- "Program section directives". This project's own: the limits have these values, and the first pass also counts names that are only used.)
use Rattle.std.specs.Prelude.{ℕ, ◌+◌, ◌||◌, Bool, nat_lt, if◌then◌else◌, List, [], ◌∷◌, ◌++◌, length, Option, Some, None, fold}
use Rattle.std.specs.List.{list_any}
use Rattle.m11_base.specs.Rad50.{Name, is_same_name}
use Rattle.m11_unfold_rules.specs.Unfolding.{UnfoldedLine}
use Rattle.m11_scan_expressions.specs.declared.names.Symbol.{Symbol}
use Rattle.m11_scan_expressions.specs.declared.names.Symbol.TheVariants.{Ordinary}
use Rattle.m11_asm_rules.specs.Definitions.{Named, first_definitions, is_defined, registers}
use Rattle.m11_asm_rules.specs.Lines.{after_line}
use Rattle.m11_asm_rules.specs.Meanings.{Map}
use Rattle.m11_asm_rules.specs.SymbolUses.{SymbolUse, symbol_uses}
use Rattle.m11_asm_rules.specs.Tables.{Table}

-- the most names that a source may have, not counting those of the registers
abbrev pub most_names : ℕ
most_names = 4096

-- the most names that a table may define, including those of the registers
abbrev pub most_defined_names : ℕ
most_defined_names = most_names + length registers

abbrev pub most_local_symbols : ℕ
most_local_symbols = 16384

-- the most sections that a source may have, including the absolute one and the blank one
abbrev pub most_sections : ℕ
most_sections = 64

pub data LimitFault : Type 0 where
  TooManySymbols : LimitFault
  TooManySections : LimitFault

-- ---- the names that lines use, except those of the registers, each once, in order of appearance: the first pass counts them too

abbrev pub is_counted : Name → List Name → Bool
is_counted name names = is_defined (Named name) first_definitions || list_any (λ other. is_same_name other name) names

abbrev pub with_symbol : Symbol → List Name → List Name
with_symbol (Ordinary name) names = if is_counted name names then names else names ++ name ∷ []
with_symbol symbol names = names

abbrev pub with_uses : List SymbolUse → List Name → List Name
with_uses symbol_uses names = fold (λ known symbol_use. with_symbol symbol_use.symbol known) names symbol_uses

abbrev pub names_after : Map → Table → List UnfoldedLine → List Name → List Name
names_after map table [] names = names
names_after map table (given ∷ lines) names =
    names_after map (after_line map table given) lines (with_uses (symbol_uses table given) names)

-- ---- how many names a table defines, including those of the registers, and how many local symbols it defines

abbrev pub name_count : Table → ℕ
name_count table = length table.definitions.names

abbrev pub local_count : Table → ℕ
local_count table = length table.definitions.local_symbols

-- ---- faults: if one line exceeds both kinds of limit, the fault is `TooManySymbols`, since a line that selects a section uses no symbols
-- but its labels, which come first

-- whether a table defines more names or more local symbols than the limits allow
abbrev pub has_too_many : Table → Bool
has_too_many table = nat_lt most_defined_names (name_count table) || nat_lt most_local_symbols (local_count table)

-- the fault of the limit, if any, exceeded by the names that lines use or by the table
abbrev pub limit_fault : List Name → Table → Option LimitFault
limit_fault names table =
    if nat_lt most_names (length names) || has_too_many table then Some TooManySymbols
    else (if nat_lt most_sections (length table.sections) then Some TooManySections else None)

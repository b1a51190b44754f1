-- The names that lines use, as a pass collects them. (MACRO-11 Language Reference Manual, "Table of contents and symbol table" and ".GLOBL
-- directive". The choice of the names that count towards the limit is this project's own.)
use Rattle.std.specs.Prelude.{◌≡◌, ◌<◌, ℕ, ◌==◌, ◌||◌, Bool, if◌then◌else◌, List, [], ◌∷◌, ◌++◌, length, map, Result, Ok, Err, fold}
use Rattle.std.specs.List.{list_any}
use Rattle.m11_asm_faults.specs.declared.fault.AsmFault.{AsmFault}
use Rattle.m11_base.specs.Rad50.{Name, is_same_name}
use Rattle.m11_asm_rules.specs.Definitions.{is_defined, first_definitions}
use Rattle.m11_asm_rules.specs.Limits.{most_names, with_uses, with_symbol}
use Rattle.m11_asm_rules.specs.SymbolUses.{SymbolUse, symbol_use}
use Rattle.m11_asm_rules.specs.declared.definitions.Key.TheVariants.{Named}
use Rattle.m11_asm_rules.specs.declared.meanings.Context.{Context}
use Rattle.m11_asm_rules.specs.declared.meanings.Context.TheVariants.{MayBeGlobal}
use Rattle.m11_asm_lines.specs.Faults.{Refuses}
use Rattle.m11_scan_expressions.specs.declared.names.Symbol.{Symbol}
use Rattle.m11_scan_expressions.specs.declared.names.Symbol.TheVariants.{Ordinary}

-- names besides those of the registers, names of registers, and names used in places where an undefined name would refer to another object:
-- each once, in order of appearance
pub record UsedNames : Type 0 where
  pub names : List Name
  pub registers : List Name
  pub referred : List Name

abbrev pub no_used_names : UsedNames
no_used_names = record { names = []; registers = []; referred = [] }

abbrev pub is_register : Name → Bool
is_register name = is_defined (Named name) first_definitions

-- names with one more, unless it is already among them
abbrev pub with_name : Name → List Name → List Name
with_name name names = if list_any (λ other. is_same_name other name) names then names else names ++ name ∷ []

abbrev pub with_register : Symbol → List Name → List Name
with_register (Ordinary name) names = if is_register name then with_name name names else names
with_register symbol names = names

abbrev pub registers_used : List SymbolUse → List Name → List Name
registers_used symbol_uses names = fold (λ known symbol_use. with_register symbol_use.symbol known) names symbol_uses

abbrev pub with_reference : Symbol → Context → List Name → List Name
with_reference (Ordinary name) MayBeGlobal names = with_name name names
with_reference symbol context names = names

abbrev pub names_referred : List SymbolUse → List Name → List Name
names_referred symbol_uses names =
    fold (λ known symbol_use. with_reference symbol_use.symbol symbol_use.context known) names symbol_uses

-- the used names after a line uses this name, in whatever context: it is added to the names of registers or to the other names
abbrev pub with_name_used : Name → UsedNames → UsedNames
with_name_used name used_names = record used_names {
  names = with_symbol (Ordinary name) used_names.names;
  registers = with_register (Ordinary name) used_names.registers;
}

-- the used names, with this name added to the references if an undefined name would refer to another object in this context
abbrev pub with_referred : Name → Context → UsedNames → UsedNames
with_referred name context used_names = record used_names { referred = with_reference (Ordinary name) context used_names.referred }

-- the used names with further uses of symbols
abbrev pub with_all : List SymbolUse → UsedNames → UsedNames
with_all symbol_uses used_names = record {
  names = with_uses symbol_uses used_names.names;
  registers = registers_used symbol_uses used_names.registers;
  referred = names_referred symbol_uses used_names.referred;
}

-- uses of symbols are added, or refused with a fault: there would be too many names, or memory was refused
abbrev pub Adds : List SymbolUse → UsedNames → UsedNames → Result (Unit {0}) AsmFault → Type 0
Adds symbol_uses old new (Ok _) = new ≡ with_all symbol_uses old
Adds symbol_uses old new (Err fault) = Refuses fault (most_names < length (with_all symbol_uses old).names) ⊥

abbrev pub in_context : Context → List Symbol → List SymbolUse
in_context context symbols = map (symbol_use context) symbols

-- whether a word packs the first three characters of `R0` to `R5`, `SP` or `PC`
abbrev pub is_register_word : ℕ → Bool
is_register_word word =
    word == 0o72460 || word == 0o72530 || word == 0o72600 || word == 0o72650 || word == 0o72720 || word == 0o72770
    || word == 0o74500 || word == 0o62170

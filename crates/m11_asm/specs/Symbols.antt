-- The names of the symbol table. (MACRO-11 Language Reference Manual, "Table of contents and symbol table" and ".GLOBL directive". That
-- names are sorted by their two RADIX-50 words, and that references have `G` too, are this project's own choices.)
use Rattle.std.specs.Prelude.{◌&&◌, ◌||◌, Bool, false, is_none, List, map, Option, Some, None}
use Rattle.m11_base.specs.Rad50.{Name}
use Rattle.m11_asm_directory.specs.FirstPass.{DirectoryFacts}
use Rattle.m11_asm_directory.specs.Names.{has_name, ordered}
use Rattle.m11_asm_directory.specs.References.{references}
use Rattle.m11_asm_listing.specs.declared.symbol_table.SymbolEntry.{SymbolEntry}
use Rattle.m11_asm_rules.specs.declared.definitions.Definition.{Definition}
use Rattle.m11_asm_rules.specs.declared.definitions.Key.TheVariants.{Named}
use Rattle.m11_asm_rules.specs.Definitions.{last_definition}
use Rattle.m11_asm.specs.Values.{symbol_value}

-- the last definition of a name, if it has one
abbrev pub definition_of : DirectoryFacts → Name → Option Definition
definition_of facts name = last_definition (Named name) facts.table.definitions

-- whether `G` marks the name: lines made it global, or another object has to define it
abbrev pub is_global : DirectoryFacts → Name → Bool
is_global facts name = has_name name facts.table.globals || has_name name (references facts)

-- whether lines refer to the name, and no line defines it
abbrev pub is_needed : DirectoryFacts → Name → Bool
is_needed facts name = has_name name facts.referred && is_none (definition_of facts name)

-- the entry of a name, from its last definition, if it has one; the name is assigned if that definition isn't a label's
abbrev pub symbol_entry : DirectoryFacts → Name → SymbolEntry
symbol_entry facts name = record {
  name = name;
  is_assigned = elim (definition_of facts name) [ Some definition ↦ is_none definition.label | None ↦ false ];
  value = symbol_value facts.table.sections (definition_of facts name);
  is_global = is_global facts name;
}

-- the entries of names, each once, in the order of their two RADIX-50 words
unfoldable pub symbol_entries : DirectoryFacts → List Name → List SymbolEntry
symbol_entries facts names = map (symbol_entry facts) (ordered names)

abbrev pub entry_names : List SymbolEntry → List Name
entry_names entries = map (λ entry. entry.name) entries

-- The section that an entry of the code's table represents, and the steps by which the code makes the first table. (MACRO-11 Language
-- Reference Manual, "Symbols and expressions" and "Program section directives".)
use Rattle.std.specs.Prelude.{ℕ, [], ◌∷◌, ◌++◌}
use Rattle.m11_base.specs.Rad50.{Name}
use Rattle.m11_asm_rules.specs.declared.sections.Section.{Section}
use Rattle.m11_asm_rules.specs.Definitions.{first_definitions, no_definitions, no_keys}
use Rattle.m11_asm_rules.specs.Tables.{Table, first_modes}

abbrev pub section_in : Name × ℕ → Section
section_in entry = record { name = entry.0; attributes = entry.1 }

-- a table without definitions or sections, in the modes before the first line
abbrev pub empty_table : Table
empty_table = record {
  definitions = no_definitions;
  doubly_defined = no_keys;
  globals = [];
  sections = [];
  counters = [];
  sizes = [];
  modes = first_modes;
}

-- a table with a new section, whose counter and size are 0
abbrev pub with_new_section : Section → Table → Table
with_new_section new table = record table {
  sections = table.sections ++ new ∷ [];
  counters = table.counters ++ 0 ∷ [];
  sizes = table.sizes ++ 0 ∷ [];
}

-- a table whose only definitions are those of the names of the registers, as if they were assigned
abbrev pub with_registers : Table → Table
with_registers table = record table { definitions = first_definitions }

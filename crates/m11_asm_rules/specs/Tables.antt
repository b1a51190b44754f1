-- The table: the state that the lines so far leave for the next one. (MACRO-11 Language Reference Manual, "Symbols and expressions",
-- "Current location counter" and "General assembler directives".)
use Rattle.std.specs.Prelude.{ℕ, false, List, [], ◌∷◌, get_or}
use Rattle.m11_base.specs.Rad50.{Name}
use Rattle.m11_scan.specs.declared.radix.Radix.TheVariants.{Octal}
use Rattle.m11_scan_expressions.specs.declared.kinds.Kind.{Kind}
pub use Rattle.m11_asm_rules.specs.declared.modes.Modes.{Modes}
use Rattle.m11_asm_rules.specs.Definitions.{Definitions, Keys, firm_parts, first_definitions, no_keys}
use Rattle.m11_asm_rules.specs.Sections.{Section, first_sections, location_kind, numbered}

-- the modes before the first line: the blank section, block 0 of local symbols, octal numbers, listing level 0, and expansions that aren't
-- listed
abbrev pub first_modes : Modes
first_modes = record { section = 1; block = 0; radix = Octal; listed = 0; unlisted = 0; shows_expansions = false }

pub record Table : Type 0 where
  -- the last definition of each name and each local symbol, and the doubly defined ones
  pub definitions : Definitions
  pub doubly_defined : Keys
  -- names that were made global, each once
  pub globals : List Name
  -- the sections in the order of their numbers, the location counter of each, and the greatest location that each counter had after a line
  pub sections : List Section
  pub counters : List ℕ
  pub sizes : List ℕ
  pub modes : Modes

-- the table before the first line
abbrev pub first_table : Table
first_table = record {
  definitions = first_definitions;
  doubly_defined = no_keys;
  globals = [];
  sections = first_sections;
  counters = 0 ∷ 0 ∷ [];
  sizes = 0 ∷ 0 ∷ [];
  modes = first_modes;
}

-- the name of the current section, which is the section of the next line
abbrev pub section_name : Table → Name
section_name table = (numbered table.modes.section table.sections).name

-- the location counter and the size in bytes of the section with this number; 0 if no section has it
abbrev pub location_of : ℕ → Table → ℕ
location_of number table = get_or table.counters number 0

abbrev pub size_of : ℕ → Table → ℕ
size_of number table = get_or table.sizes number 0

-- the location counter of the current section
abbrev pub location : Table → ℕ
location table = location_of table.modes.section table

-- the kind of the locations of the current section
abbrev pub kind_here : Table → Kind
kind_here table = location_kind table.modes.section table.sections

-- the firm part of a table, on which sizes, locations and conditions depend
abbrev pub firm_table : Table → Table
firm_table table = record table { definitions = firm_parts table.definitions }

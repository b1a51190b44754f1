-- The sections of the symbol table. (MACRO-11 Language Reference Manual, "Table of contents and symbol table" and "Program section
-- directives". That they are in the order of their numbers is this project's own choice.)
use Rattle.std.specs.Prelude.{ℕ, List, map}
use Rattle.std.specs.List.{enumerate_from}
use Rattle.m11_asm_directory.specs.FirstPass.{DirectoryFacts}
use Rattle.m11_asm_listing.specs.declared.symbol_table.SectionEntry.{SectionEntry}
use Rattle.m11_asm_rules.specs.Tables.{size_of}
use Rattle.m11_asm_rules.specs.declared.sections.Section.{Section}

abbrev pub section_entry : DirectoryFacts → ℕ × Section → SectionEntry
section_entry facts numbered = record {
  name = numbered.1.name;
  size = size_of numbered.0 facts.table;
  number = numbered.0;
  attributes = record { 0 = numbered.1.attributes };
}

unfoldable pub section_entries : DirectoryFacts → List SectionEntry
section_entries facts = map (section_entry facts) (enumerate_from 0 facts.table.sections)

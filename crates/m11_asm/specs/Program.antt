-- What the first pass over a source passes on to the second one. (MACRO-11 Language Reference Manual, "Symbols", ".GLOBL directive", ".END
-- directive" and "Table of contents and symbol table".)
use Rattle.std.specs.Prelude.{List, ◌++◌, Option}
use Rattle.m11_asm_directory.specs.FirstPass.{DirectoryFacts}
use Rattle.m11_asm_directory.specs.Rows.{directory_rows}
use Rattle.m11_asm.specs.Facts.{Facts, facts_of}
use Rattle.m11_asm.specs.First.{Symbols}
use Rattle.m11_asm_listing.specs.declared.symbol_table.SectionEntry.{SectionEntry}
use Rattle.m11_asm_listing.specs.declared.symbol_table.SymbolEntry.{SymbolEntry}
use Rattle.m11_obj.specs.declared.directory.DirectoryRow.{DirectoryRow}
use Rattle.m11_asm_passes.specs.Lines.{counting_after}
use Rattle.m11_asm_rules.specs.Meanings.{Map, empty_map, map_of}
use Rattle.m11_asm_rules.specs.Placements.{table_after}
use Rattle.m11_asm_rules.specs.Tables.{Table, first_table}
use Rattle.m11_asm_lines.specs.Counting.{used_names_in, none_used}
use Rattle.m11_asm_lines.specs.UsedSymbols.{UsedNames}
use Rattle.m11_asm.specs.Sections.{section_entries}
use Rattle.m11_asm.specs.Symbols.{symbol_entries}
use Rattle.m11_unfold_rules.specs.Unfolding.{UnfoldedLine}
use Rattle.m11_scan_expressions.specs.Quantities.{Quantity}

pub record Program : Type 0 where
  -- the meanings of names after the last line, and the names that lines use
  pub map : Map
  pub used_symbols : UsedNames
  -- the rows of the object's directory
  pub rows : List DirectoryRow
  -- the names and the sections of the symbol table
  pub symbols : List SymbolEntry
  pub sections : List SectionEntry
  -- the value that the expression of the live `.END` has in the first pass; None if no `.END` became live, or if the live one has no
  -- expression
  pub transfer : Option Quantity

-- ---- from the table after the last line, the names that lines use, and the other facts of the lines

abbrev pub directory_facts_by : Table → UsedNames → Facts → DirectoryFacts
directory_facts_by table used_names facts = record {
  table = table;
  referred = used_names.referred;
  weak = facts.weak;
  title = facts.title;
  identification = facts.identification;
  transfer = facts.transfer;
}

abbrev pub program_by : Table → UsedNames → Facts → Program
program_by table used_names facts = record {
  map = map_of table;
  used_symbols = used_names;
  rows = directory_rows (directory_facts_by table used_names facts);
  symbols = symbol_entries (directory_facts_by table used_names facts) (used_names.names ++ used_names.registers);
  sections = section_entries (directory_facts_by table used_names facts);
  transfer = facts.transfer;
}

-- what is passed on from the result of a first pass
abbrev pub program_in : Symbols → Program
program_in symbols = program_by symbols.table symbols.used_names symbols.facts

-- ---- from the lines that became live in the first pass

-- the names that the lines use
abbrev pub used_in : List UnfoldedLine → UsedNames
used_in lines = used_names_in (counting_after empty_map first_table lines none_used)

abbrev pub directory_facts_of : List UnfoldedLine → DirectoryFacts
directory_facts_of lines = directory_facts_by (table_after empty_map lines) (used_in lines) (facts_of lines)

abbrev pub program_of : List UnfoldedLine → Program
program_of lines = program_by (table_after empty_map lines) (used_in lines) (facts_of lines)

-- A symbol table, worked by hand. (MACRO-11 Language Reference Manual, "Table of contents and symbol table".)
--
--     X=5
--     A:: .WORD Q
--     CLR R1
--     .BLKB Z
--     Y=Z
use Rattle.std.specs.Prelude.{true, List, [], ◌∷◌, ◌++◌, codes, Option, Some, None}
use Rattle.m11_base.specs.Devices.{Bytes}
use Rattle.m11_base.specs.Names.{blank_name, name_in_words}
use Rattle.m11_base.specs.Rad50.{Name}
use Rattle.m11_asm_directory.specs.FirstPass.{DirectoryFacts}
use Rattle.m11_asm_listing.specs.SymbolTable.{last_lines}
use Rattle.m11_asm_rules.specs.declared.definitions.Definition.{Definition}
use Rattle.m11_asm_rules.specs.Definitions.{first_definitions}
use Rattle.m11_asm_rules.specs.declared.definitions.Standing.{Standing}
use Rattle.m11_asm_rules.specs.declared.definitions.Standing.TheVariants.{Known, Unknown}
use Rattle.m11_asm_rules.specs.Tables.{Table, first_table}
use Rattle.m11_asm.specs.Sections.{section_entries}
use Rattle.m11_asm.specs.Symbols.{symbol_entries}
use Rattle.m11_scan_expressions.specs.declared.kinds.Kind.TheVariants as kind

abbrev pub name : Bytes → Name
name characters = name_in_words characters

abbrev pub defined : Bytes → Standing → Option Name → Name × Definition
defined characters standing label = (
  name characters,
  record {
    standing = standing;
    is_firm = true;
    label = label;
  },
)

abbrev pub table : Table
table = record first_table {
  definitions = record {
    names = first_definitions.names
        ++ defined (codes "X     ") (Known 5 kind.Absolute) None
        ∷ defined (codes "A     ") (Known 0 (kind.Section blank_name)) (Some blank_name)
        ∷ defined (codes "Y     ") Unknown None
        ∷ [];
    local_symbols = [];
  };
  globals = name (codes "A     ") ∷ [];
  sizes = 0 ∷ 4 ∷ [];
}

abbrev pub facts : DirectoryFacts
facts = record {
  table = table;
  referred = name (codes "Q     ") ∷ name (codes "R1    ") ∷ [];
  weak = [];
  title = None;
  identification = None;
  transfer = None;
}

abbrev pub used_symbols : List Name
used_symbols =
    name (codes "X     ") ∷ name (codes "A     ") ∷ name (codes "Q     ") ∷ name (codes "Z     ") ∷ name (codes "Y     ")
    ∷ name (codes "R1    ") ∷ []

abbrev pub found_lines : List Bytes
found_lines = last_lines (symbol_entries facts used_symbols) (section_entries facts) 2

abbrev pub worked_lines : List Bytes
worked_lines =
    codes "\n"
    ∷ codes "SYMBOL TABLE\n"
    ∷ codes "A        000000 RG   1\n"
    ∷ codes "Q        ******  G\n"
    ∷ codes "R1     = 000001 %\n"
    ∷ codes "X      = 000005\n"
    ∷ codes "Y      = ******\n"
    ∷ codes "Z        ******\n"
    ∷ codes "\n"
    ∷ codes ". ABS. 000000   0 RW,I,GBL,ABS,OVR\n"
    ∷ codes "       000004   1 RW,I,LCL,REL,CON\n"
    ∷ codes "\n"
    ∷ codes "ERRORS DETECTED: 2\n"
    ∷ []

-- The texts of lines of source that show words of memory, where an address has a name if one of these symbols names just it. No word has a
-- relocation. (MACRO-11 Language Reference Manual, "Assembler statements".)
use Rattle.std.specs.Prelude.{List, ◌∷◌, None}
use Rattle.m11_base.specs.Devices.{Bytes}
use Rattle.m11_base_disassembly.specs.Arguments.{Argument}
use Rattle.m11_base_disassembly.specs.References.{no_references}
use Rattle.m11_base_disassembly.specs.Statements.{Statement}
use Rattle.m11_base_disassembly.specs.Texts as named
use Rattle.m11_base_disassembly.specs.declared.symbols.Symbol.{Symbol}

abbrev pub argument_text : List Symbol → Argument → Bytes
argument_text symbols argument = named.argument_text symbols None argument

abbrev pub statement_text : List Symbol → Statement → Bytes
statement_text symbols statement = named.statement_text symbols no_references statement

-- the line of a statement: a tab, and the statement
abbrev pub line_text : List Symbol → Statement → Bytes
line_text symbols statement = 9 ∷ statement_text symbols statement

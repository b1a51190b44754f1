-- Instructions: the code word, then the words of the operands, source first. (PDP-11/40 Processor Handbook, "Instruction set" and
-- "Addressing modes"; MACRO-11 Language Reference Manual, "Operand field".)
use Rattle.std.specs.Prelude.{ℕ, true}
use Rattle.std.specs.Int.RustNames.{bit_or}
use Rattle.m11_base.specs.Devices.{Bytes}
use Rattle.m11_base.specs.declared.instruction.Op.{Op}
use Rattle.m11_asm_rules.specs.Alignment.{location_for}
use Rattle.m11_asm_rules.specs.Codes.{LineContext, code, words_from}
use Rattle.m11_asm_rules.specs.Contents.{Emission, followed_by, further, with_flags}
use Rattle.m11_asm_rules.specs.Elements.{argument_flags}
use Rattle.m11_asm_rules.specs.Fields.{Fields, fields_at, forms_of}
use Rattle.m11_asm_rules.specs.Meanings.{LocalOnly, Map, MayBeGlobal, firm_known, known_at}
use Rattle.m11_asm_rules.specs.Operands.{instruction_size}
use Rattle.m11_asm_rules.specs.Tables.{Table, location}

abbrev pub fields : Table → ℕ → Bytes → ℕ → Op → Fields
fields table location line start operation = fields_at (firm_known table location) line start operation

-- the fields of an instruction in a line, at the even location where it is placed
abbrev pub line_fields : Table → Bytes → ℕ → Op → Fields
line_fields table line start operation = fields table (location_for true (location table)) line start operation

-- the size in bytes of an instruction at a location; its fields begin at a column of its line
abbrev pub size : Table → ℕ → Bytes → ℕ → Op → ℕ
size table location line start operation = instruction_size (forms_of (fields table location line start operation))

abbrev pub line_context : Map → Table → ℕ → LineContext
line_context map table location =
    record { table = table; location = location; known = known_at map LocalOnly table location; refers = known_at map MayBeGlobal table location }

-- the emission of an instruction with these fields, including the flags of its text, for anything missing, skipped or left over
abbrev pub assembled : LineContext → Bytes → ℕ → Op → Fields → Emission
assembled line_context line start operation fields =
    with_flags (bit_or fields.flags (argument_flags line start fields.end))
    (followed_by (code line_context operation fields.first fields.second)
    (words_from line_context (further line_context.location 2) (forms_of fields)))

-- the words of an instruction at a location, with its flags; its fields begin at a column of its line
abbrev pub words : Map → Table → ℕ → Bytes → ℕ → Op → Emission
words map table location line start operation =
    assembled (line_context map table location) line start operation (fields table location line start operation)

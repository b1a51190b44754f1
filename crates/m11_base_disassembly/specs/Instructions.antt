-- The line of source for an instruction at a location. (PDP-11/40 Processor Handbook, "Instruction set" and "Addressing modes".) A word
-- whose code has no name is a word of data, and so is the first word of an instruction whose other words are missing.
use Rattle.std.specs.Prelude.{ℕ, ℤ, pos, ◌+◌, ◌-◌, ◌*◌, ◌%◌, ◌==◌, nat_le, if◌then◌else◌, List, length, find, slice_index, Option, Some, None}
use Rattle.std.specs.Int.{cast_unsigned, w16}
use Rattle.m11_base.specs.Instructions.{instruction_of, is_of, other_names, row_of}
use Rattle.m11_base.specs.declared.instruction.Insn.{Insn}
use Rattle.m11_base.specs.declared.instruction.Insn.TheVariants as insn
use Rattle.m11_base.specs.declared.instruction_list.Row.{Row}
use Rattle.m11_base.specs.declared.operand.Operand.{Operand}
use Rattle.m11_base_disassembly.specs.Arguments.{Argument, Plain, argument, words_of}
use Rattle.m11_base_disassembly.specs.Statements.{Operands, Nothing, One, Two, Target, Loop, Number, Statement, Named, DataWord}

-- ---- names

-- the row of a word, unless the row's name is blank; in that case, the word's row in the list of other names, if it has one
abbrev pub named_row : Option Row → ℕ → Option Row
named_row None word = None
named_row (Some row) word = if slice_index row.name 0 == 32 then find (is_of word) other_names else Some row

-- the row whose name is written for this word, if there is one
abbrev pub row_named : ℕ → Option Row
row_named word = named_row (row_of word) word

-- ---- words after the code

-- how many words follow the code of an instruction: 0 to 2
abbrev pub words_after : Insn → ℕ
words_after (insn.Double operation size source destination) = words_of source + words_of destination
words_after (insn.Extended operation register source) = words_of source
words_after (insn.Register operation register destination) = words_of destination
words_after (insn.Single operation size operand) = words_of operand
words_after other = 0

-- the row whose name is written for this word, if there is one and all words of the instruction are present
abbrev pub whole_row : ℕ → List ℕ → Option Row
whole_row word more = if nat_le (words_after (instruction_of word)) (length more) then row_named word else None

-- ---- targets

-- the location this many bytes after another, modulo 65536
abbrev pub location_after : ℕ → ℕ → ℕ
location_after location bytes = (location + bytes) % 65536

-- the target of a branch at this location, whose offset counts words from the next instruction
abbrev pub branch_target : ℕ → ℤ → ℕ
branch_target location offset = (location + 2 + 2 * cast_unsigned w16 offset) % 65536

abbrev pub offset_of : Insn → ℤ
offset_of (insn.Branch operation offset) = offset
offset_of other = pos 0

-- the target of SOB at this location: this many words before the next instruction
abbrev pub loop_target : ℕ → ℕ → ℕ
loop_target location count = (location + 65538 - 2 * count) % 65536

-- ---- the line

-- the first operand; its word, if it has one, is the first after the code
abbrev pub first_argument : ℕ → List ℕ → Operand → Argument
first_argument location more operand = argument operand (location_after location 4) (slice_index more 0)

-- the second operand; its word, if it has one, follows the code and any word of the first operand
abbrev pub second_argument : ℕ → List ℕ → Operand → Operand → Argument
second_argument location more first operand =
    argument operand (location_after location (4 + 2 * words_of first)) (slice_index more (words_of first))

-- the operands of an instruction, in the order in which they are written
abbrev pub operands_of : ℕ → List ℕ → Insn → Operands
operands_of location more (insn.Double operation size source destination) =
    Two (first_argument location more source) (second_argument location more source destination)
operands_of location more (insn.Extended operation register source) = Two (first_argument location more source) (Plain register)
operands_of location more (insn.Register operation register destination) =
    Two (Plain register) (first_argument location more destination)
operands_of location more (insn.Sob register count) = Loop register (loop_target location count)
operands_of location more (insn.Single operation size operand) = One (first_argument location more operand)
operands_of location more (insn.Rts register) = One (Plain register)
operands_of location more (insn.Number operation number) = Number number
operands_of location more (insn.Bare operation) = Nothing
operands_of location more (insn.Condition operation condition_codes) = Nothing
operands_of location more (insn.Branch operation offset) = Target (branch_target location offset)
operands_of location more (insn.Reserved word) = Nothing

abbrev pub statement_by : Option Row → ℕ → ℕ → List ℕ → Statement
statement_by None location word more = DataWord word
statement_by (Some row) location word more = Named row.name (operands_of location more (instruction_of word))

abbrev pub size_by : Option Row → ℕ → ℕ
size_by None word = 1
size_by (Some row) word = 1 + words_after (instruction_of word)

-- the line of the instruction at this location with the code `word` and the words `more` after it; or the line of `word` as data, if the
-- code has no name or `more` lacks a word of the instruction
abbrev pub statement_of : ℕ → ℕ → List ℕ → Statement
statement_of location word more = statement_by (whole_row word more) location word more

-- the number of words that the line of `statement_of` is made from: 1 to 3
abbrev pub size_of : ℕ → List ℕ → ℕ
size_of word more = size_by (whole_row word more) word

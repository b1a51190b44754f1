-- The words that an assembler produces from a line of source at a location of an absolute section. (MACRO-11 Language Reference
-- Manual, "Addressing modes", "Branch instruction addressing", "Permanent symbol table".)
use Rattle.std.specs.Prelude.{◌≡◌, ℕ, ℤ, ◌+◌, ◌*◌, ◌<◌, List, [], ◌∷◌, ◌++◌, FitsSigned, length, Some}
use Rattle.std.specs.Int.{w8}
use Rattle.std.specs.List.{AllByRecursion}
use Rattle.m11_base.specs.Encoding.{code_of, number_limit}
use Rattle.m11_base.specs.Mnemonics.{operation_named}
use Rattle.m11_base.specs.declared.instruction.Insn.TheVariants as insn
use Rattle.m11_base.specs.declared.instruction.Op.{Op}
use Rattle.m11_base.specs.declared.instruction.Op.TheVariants as op
use Rattle.m11_base_disassembly.specs.Arguments.{Argument, Plain, operand_meant, words_meant}
use Rattle.m11_base_disassembly.specs.Instructions.{branch_target, location_after, loop_target}
use Rattle.m11_base_disassembly.specs.Statements.{Operands, Nothing, One, Two, Target, Loop, Number, Statement, Named, DataWord, DataByte}
use Rattle.m11_base_disassembly.specs.Names.{bare_name}

-- each number is a word
abbrev pub AreWords : List ℕ → Type 0
AreWords words = AllByRecursion (λ word. word < 65536) words

-- the words after the code that belong to the first operand
abbrev pub first_words : ℕ → Argument → List ℕ
first_words location first = words_meant (location_after location 4) first

-- the words after the code that belong to the second operand
abbrev pub second_words : ℕ → Argument → Argument → List ℕ
second_words location first second = words_meant (location_after location (4 + 2 * length (first_words location first))) second

-- An operation with these operands at this location assembles to these words; the target of a branch or of SOB is within reach. This holds
-- of no words if the operands don't have the operation's form. It holds of none for CALL and RETURN either, since no line of a disassembly
-- has these names, nor for `Condition`, since no name means it.
abbrev pub Means : Op → Operands → ℕ → List ℕ → Type 0
Means (op.Double operation size) (Two first second) location words =
    words ≡ code_of (insn.Double operation size (operand_meant first) (operand_meant second))
    ∷ (first_words location first ++ second_words location first second)
Means (op.Extended operation) (Two first (Plain register)) location words =
    words ≡ code_of (insn.Extended operation register (operand_meant first)) ∷ first_words location first
Means (op.Register operation) (Two (Plain register) second) location words =
    words ≡ code_of (insn.Register operation register (operand_meant second)) ∷ first_words location second
Means op.Sob (Loop register address) location words = (count : ℕ) × (count < 0o100) × (address ≡ loop_target location count)
    × (words ≡ code_of (insn.Sob register count) ∷ [])
Means (op.Single operation size) (One first) location words =
    words ≡ code_of (insn.Single operation size (operand_meant first)) ∷ first_words location first
Means op.Rts (One (Plain register)) location words = words ≡ code_of (insn.Rts register) ∷ []
Means (op.Number operation) (Number number) location words =
    (number < number_limit operation) × (words ≡ code_of (insn.Number operation number) ∷ [])
Means (op.Bare operation) Nothing location words = words ≡ code_of (insn.Bare operation) ∷ []
Means (op.Branch operation) (Target address) location words = (offset : ℤ) × FitsSigned w8 offset
    × (address ≡ branch_target location offset) × (words ≡ code_of (insn.Branch operation offset) ∷ [])
Means (op.Codes operation condition_codes) Nothing location words =
    words ≡ code_of (insn.Condition operation condition_codes) ∷ []
Means operation operands location words = ⊥

-- a line at this location assembles to these words: those of the operation with its name and operands, or the word of data; this holds of
-- no words if the line is a byte of data
abbrev pub IsMeant : ℕ → Statement → List ℕ → Type 0
IsMeant location (Named name operands) words = (operation : Op) × (operation_named (bare_name name) ≡ Some operation)
    × Means operation operands location words
IsMeant location (DataWord word) words = words ≡ word ∷ []
IsMeant location (DataByte byte) words = ⊥

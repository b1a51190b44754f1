-- The code word of an instruction, from its fields, and the words after it. (PDP-11/40 Processor Handbook, "Instruction set" and
-- "Addressing modes"; MACRO-11 Language Reference Manual, "Diagnostic error message summary", A, R and T. This project's own: a
-- number in place of a register is taken modulo 8.)
use Rattle.std.specs.Prelude.{ℕ, ◌*◌, ◌%◌, not, nat_le, Bool, true, false, List, [], ◌∷◌}
use Rattle.std.specs.Int.{cast_signed, w8}
use Rattle.std.specs.Int.RustNames.{bit_or}
use Rattle.m11_scan_expressions.specs.Expressions.{KnownSymbols, number, value}
use Rattle.m11_scan_expressions.specs.Tokens.{Expression}
use Rattle.m11_base.specs.Encoding.{code_of, number_limit}
use Rattle.m11_base.specs.Operand.{register_of}
use Rattle.m11_base.specs.declared.instruction.BareOp.TheVariants.{Halt}
use Rattle.m11_base.specs.declared.instruction.Insn.{Insn}
use Rattle.m11_base.specs.declared.instruction.Insn.TheVariants as insn
use Rattle.m11_base.specs.declared.instruction.Op.{Op}
use Rattle.m11_base.specs.declared.instruction.Op.TheVariants as op
use Rattle.m11_base.specs.declared.instruction.RegisterOp.TheVariants.{Jsr}
use Rattle.m11_base.specs.declared.operand.Mode.{Mode}
use Rattle.m11_base.specs.declared.operand.Mode.TheVariants as mode
use Rattle.m11_base.specs.declared.operand.Operand.{Operand}
use Rattle.m11_base.specs.declared.operand.Register.{Register}
use Rattle.m11_base.specs.declared.operand.Register.TheVariants.{R0, Pc}
use Rattle.m11_scan.specs.ErrorFlags.{flag_A, flag_T, flag_if}
use Rattle.m11_scan_expressions.specs.Kinds.{is_register, flag_R}
use Rattle.m11_scan_expressions.specs.Operations.{absence}
use Rattle.m11_scan_expressions.specs.Quantities.{Quantity}
use Rattle.m11_asm_rules.specs.Branches.{branch_offset, branch_reaches, loop_offset, loop_reaches}
use Rattle.m11_asm_rules.specs.Contents.{Emission, fixed_word, followed_by, further, nothing, emission, register_flags, word}
use Rattle.m11_asm_rules.specs.declared.fields.Field.{Field}
use Rattle.m11_asm_rules.specs.declared.fields.Field.TheVariants as content
use Rattle.m11_asm_rules.specs.declared.operands.Form.{Form}
use Rattle.m11_asm_rules.specs.declared.operands.Form.TheVariants.{Absent, InRegister, Indexed, Unindexed, AfterCounter}
use Rattle.m11_asm_rules.specs.Operands.{words_of}
use Rattle.m11_asm_rules.specs.Tables.{Table}

-- the table, the location of an instruction, and the symbols known there: `known` for registers, targets and numbers, `refers` for the
-- words after the code word, which may refer to other objects
pub record LineContext : Type 0 where
  pub table : Table
  pub location : ℕ
  pub known : KnownSymbols
  pub refers : KnownSymbols

-- ---- registers

abbrev pub as_register : LineContext → Expression → Register
as_register line_context register = register_of (number line_context.known register % 8)

-- the flags of a value, with R if it isn't a register
abbrev pub as_register_flags : Quantity → ℕ
as_register_flags value = bit_or value.flags (flag_if (not (is_register value.kind)) flag_R)

-- ---- operands

abbrev pub operand : Mode → Register → Operand
operand kind register = record { mode = kind; register = register }

abbrev pub operand_of : LineContext → Form Expression → Operand
operand_of line_context Absent = operand mode.Register R0
operand_of line_context (InRegister kind register) = operand kind (as_register line_context register)
operand_of line_context (Indexed kind register index) = operand kind (as_register line_context register)
operand_of line_context (Unindexed register) = operand mode.IndexDeferred (as_register line_context register)
operand_of line_context (AfterCounter kind number) = operand kind Pc

abbrev pub form_flags : LineContext → Form Expression → ℕ
form_flags line_context Absent = 0
form_flags line_context (InRegister kind register) = as_register_flags (value line_context.known register)
form_flags line_context (Indexed kind register index) = as_register_flags (value line_context.known register)
form_flags line_context (Unindexed register) = as_register_flags (value line_context.known register)
form_flags line_context (AfterCounter kind number) = 0

-- whether a mode of PC adds a distance to PC: relative and relative deferred do
abbrev pub is_relative : Mode → Bool
is_relative mode.Index = true
is_relative mode.IndexDeferred = true
is_relative kind = false

-- the word of an operand, if it has one, at the word's own location; `.` in the operand is the location of the instruction
abbrev pub form_words : LineContext → ℕ → Form Expression → Emission
form_words line_context location (Indexed kind register index) =
    word line_context.table false location (value line_context.refers index)
form_words line_context location (Unindexed register) = emission (fixed_word 0 ∷ []) 0
form_words line_context location (AfterCounter kind number) =
    word line_context.table (is_relative kind) location (value line_context.refers number)
form_words line_context location form = nothing 0

-- ---- fields

abbrev pub operand_in : LineContext → Field Expression → Operand
operand_in line_context (content.Operand form) = operand_of line_context form
operand_in line_context field = operand mode.Register R0

abbrev pub register_in : LineContext → Field Expression → Register
register_in line_context (content.Register register) = as_register line_context register
register_in line_context field = R0

-- the instruction with this operation and these fields; a number is cut to the bits that the code word has for it
abbrev pub instruction : LineContext → Op → Field Expression → Field Expression → Insn
instruction line_context (op.Double operation size) first second =
    insn.Double operation size (operand_in line_context first) (operand_in line_context second)
instruction line_context (op.Extended operation) first second =
    insn.Extended operation (register_in line_context second) (operand_in line_context first)
instruction line_context (op.Register operation) first second =
    insn.Register operation (register_in line_context first) (operand_in line_context second)
instruction line_context op.Sob first second = insn.Sob (register_in line_context first)
    (elim second [ content.Target target ↦ loop_offset line_context.table line_context.location (value line_context.known target) | _ ↦ 0 ])
instruction line_context (op.Single operation size) first second = insn.Single operation size (operand_in line_context first)
instruction line_context op.Rts first second = insn.Rts (register_in line_context first)
instruction line_context (op.Number operation) first second = insn.Number operation
    (elim first [ content.Number count ↦ number line_context.known count % number_limit operation | _ ↦ 0 ])
instruction line_context (op.Bare operation) first second = insn.Bare operation
instruction line_context (op.Condition operation) first second = insn.Bare Halt
instruction line_context (op.Branch operation) first second = insn.Branch operation (cast_signed w8
    (elim first [ content.Target target ↦ branch_offset line_context.table line_context.location (value line_context.known target) | _ ↦ 0 ]))
instruction line_context op.Call first second = insn.Register Jsr Pc (operand_in line_context first)
instruction line_context op.Return first second = insn.Rts Pc
instruction line_context (op.Codes operation codes) first second = insn.Condition operation codes

-- ---- flags

-- the flags of the value of a number field, with R for a register, A for any other value that isn't absolute, and T for a number too large
-- for its bits in the code word
abbrev pub numbered_flags : Op → Quantity → ℕ
numbered_flags operation value =
    bit_or (bit_or value.flags (absence value.kind))
    (elim operation [ op.Number numbering ↦ flag_if (nat_le (number_limit numbering) value.number) flag_T | _ ↦ 0 ])

-- the flags of a target, with R if it is a register, and A if the operation doesn't reach it
abbrev pub targeted_flags : LineContext → Op → Quantity → ℕ
targeted_flags line_context operation target =
    bit_or (bit_or target.flags (register_flags target.kind)) (flag_if (not (elim operation [
      | op.Sob ↦ loop_reaches line_context.table line_context.location target
      | _ ↦ branch_reaches line_context.table line_context.location target
    ])) flag_A)

abbrev pub field_flags : LineContext → Op → Field Expression → ℕ
field_flags line_context operation (content.Operand form) = form_flags line_context form
field_flags line_context operation (content.Register register) = as_register_flags (value line_context.known register)
field_flags line_context operation (content.Target target) = targeted_flags line_context operation (value line_context.known target)
field_flags line_context operation (content.Number number) = numbered_flags operation (value line_context.known number)
field_flags line_context operation content.Missing = 0

-- ---- the words

-- the words of the operands, one after another, the first at a location
abbrev pub words_from : LineContext → ℕ → List (Form Expression) → Emission
words_from line_context location [] = nothing 0
words_from line_context location (form ∷ forms) =
    followed_by (form_words line_context location form) (words_from line_context (further location (words_of form * 2)) forms)

-- the code word, with the flags of both fields
abbrev pub code : LineContext → Op → Field Expression → Field Expression → Emission
code line_context operation first second =
    emission (fixed_word (code_of (instruction line_context operation first second)) ∷ [])
    (bit_or (field_flags line_context operation first) (field_flags line_context operation second))

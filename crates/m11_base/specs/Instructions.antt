-- The instruction list of the PDP-11/40 with the extended instruction set, a second list of other names, and what each word means.
-- (PDP-11/40 Processor Handbook, "Instruction set"; for the names of the second list MACRO-11 Language Reference Manual, "Permanent
-- symbol table".)
use Rattle.std.specs.Prelude.{◌≡◌, ℕ, ◌/◌, ◌%◌, ◌<◌, ◌≤◌, Bool, ◌==◌, List, [], ◌∷◌, codes, find, count_by, bit_and, Option, Some, None}
use Rattle.std.specs.Int.{cast_signed, w8}
use Rattle.m11_base.specs.declared.instruction.ConditionCodes.{ConditionCodes}
use Rattle.m11_base.specs.declared.instruction.DoubleOp.TheVariants.{Mov, Cmp, Bit, Bic, Bis, Add, Sub}
use Rattle.m11_base.specs.declared.instruction.ExtendedOp.TheVariants.{Mul, Div, Ash, Ashc}
use Rattle.m11_base.specs.declared.instruction.RegisterOp.TheVariants.{Jsr, Xor}
use Rattle.m11_base.specs.declared.instruction.SingleOp.TheVariants.{Jmp, Swab, Clr, Com, Inc, Dec, Neg, Adc, Sbc, Tst, Ror, Rol, Asr, Asl, Sxt}
use Rattle.m11_base.specs.declared.instruction.NumberOp.{NumberOp}
use Rattle.m11_base.specs.declared.instruction.NumberOp.TheVariants.{Mark, Emt, Trap}
use Rattle.m11_base.specs.declared.instruction.BareOp.TheVariants.{Halt, Wait, Rti, Bpt, Iot, Reset, Rtt}
use Rattle.m11_base.specs.declared.instruction.ConditionOp.TheVariants.{Clear, Set}
use Rattle.m11_base.specs.declared.instruction.BranchOp.TheVariants.{Br, Bne, Beq, Bge, Blt, Bgt, Ble, Bpl, Bmi, Bhi, Blos, Bvc, Bvs, Bcc, Bcs}
use Rattle.m11_base.specs.declared.instruction.Insn.{Insn}
use Rattle.m11_base.specs.declared.instruction.Insn.TheVariants as insn
use Rattle.m11_base.specs.declared.instruction.Op.{Op}
use Rattle.m11_base.specs.declared.instruction.Op.TheVariants as op
use Rattle.m11_base.specs.declared.operand.Size.TheVariants.{Word, Byte}
use Rattle.m11_base.specs.declared.operand.Register.TheVariants.{Pc}
use Rattle.m11_base.specs.declared.instruction_list.Row.{Row}
use Rattle.m11_base.specs.Operand.{operand_of, register_of}

abbrev row : List ℕ → ℕ → ℕ → Op → Row
row name mask value operation = record { name = name; mask = mask; value = value; operation = operation }

-- ---- the list, by the forms of the codes: the name in a source, padded with blanks to six characters; the mask of the
-- operation's bits; their value; the operation
unfoldable pub rows : List Row
rows =
    row (codes "MOV   ") 0o170000 0o010000 (op.Double Mov Word)
    ∷ row (codes "CMP   ") 0o170000 0o020000 (op.Double Cmp Word)
    ∷ row (codes "BIT   ") 0o170000 0o030000 (op.Double Bit Word)
    ∷ row (codes "BIC   ") 0o170000 0o040000 (op.Double Bic Word)
    ∷ row (codes "BIS   ") 0o170000 0o050000 (op.Double Bis Word)
    ∷ row (codes "ADD   ") 0o170000 0o060000 (op.Double Add Word)
    ∷ row (codes "MOVB  ") 0o170000 0o110000 (op.Double Mov Byte)
    ∷ row (codes "CMPB  ") 0o170000 0o120000 (op.Double Cmp Byte)
    ∷ row (codes "BITB  ") 0o170000 0o130000 (op.Double Bit Byte)
    ∷ row (codes "BICB  ") 0o170000 0o140000 (op.Double Bic Byte)
    ∷ row (codes "BISB  ") 0o170000 0o150000 (op.Double Bis Byte)
    ∷ row (codes "SUB   ") 0o170000 0o160000 (op.Double Sub Word)
    ∷ row (codes "MUL   ") 0o177000 0o070000 (op.Extended Mul)
    ∷ row (codes "DIV   ") 0o177000 0o071000 (op.Extended Div)
    ∷ row (codes "ASH   ") 0o177000 0o072000 (op.Extended Ash)
    ∷ row (codes "ASHC  ") 0o177000 0o073000 (op.Extended Ashc)
    ∷ row (codes "JSR   ") 0o177000 0o004000 (op.Register Jsr)
    ∷ row (codes "XOR   ") 0o177000 0o074000 (op.Register Xor)
    ∷ row (codes "SOB   ") 0o177000 0o077000 op.Sob
    ∷ row (codes "JMP   ") 0o177700 0o000100 (op.Single Jmp Word)
    ∷ row (codes "SWAB  ") 0o177700 0o000300 (op.Single Swab Word)
    ∷ row (codes "CLR   ") 0o177700 0o005000 (op.Single Clr Word)
    ∷ row (codes "COM   ") 0o177700 0o005100 (op.Single Com Word)
    ∷ row (codes "INC   ") 0o177700 0o005200 (op.Single Inc Word)
    ∷ row (codes "DEC   ") 0o177700 0o005300 (op.Single Dec Word)
    ∷ row (codes "NEG   ") 0o177700 0o005400 (op.Single Neg Word)
    ∷ row (codes "ADC   ") 0o177700 0o005500 (op.Single Adc Word)
    ∷ row (codes "SBC   ") 0o177700 0o005600 (op.Single Sbc Word)
    ∷ row (codes "TST   ") 0o177700 0o005700 (op.Single Tst Word)
    ∷ row (codes "ROR   ") 0o177700 0o006000 (op.Single Ror Word)
    ∷ row (codes "ROL   ") 0o177700 0o006100 (op.Single Rol Word)
    ∷ row (codes "ASR   ") 0o177700 0o006200 (op.Single Asr Word)
    ∷ row (codes "ASL   ") 0o177700 0o006300 (op.Single Asl Word)
    ∷ row (codes "SXT   ") 0o177700 0o006700 (op.Single Sxt Word)
    ∷ row (codes "CLRB  ") 0o177700 0o105000 (op.Single Clr Byte)
    ∷ row (codes "COMB  ") 0o177700 0o105100 (op.Single Com Byte)
    ∷ row (codes "INCB  ") 0o177700 0o105200 (op.Single Inc Byte)
    ∷ row (codes "DECB  ") 0o177700 0o105300 (op.Single Dec Byte)
    ∷ row (codes "NEGB  ") 0o177700 0o105400 (op.Single Neg Byte)
    ∷ row (codes "ADCB  ") 0o177700 0o105500 (op.Single Adc Byte)
    ∷ row (codes "SBCB  ") 0o177700 0o105600 (op.Single Sbc Byte)
    ∷ row (codes "TSTB  ") 0o177700 0o105700 (op.Single Tst Byte)
    ∷ row (codes "RORB  ") 0o177700 0o106000 (op.Single Ror Byte)
    ∷ row (codes "ROLB  ") 0o177700 0o106100 (op.Single Rol Byte)
    ∷ row (codes "ASRB  ") 0o177700 0o106200 (op.Single Asr Byte)
    ∷ row (codes "ASLB  ") 0o177700 0o106300 (op.Single Asl Byte)
    ∷ row (codes "RTS   ") 0o177770 0o000200 op.Rts
    ∷ row (codes "MARK  ") 0o177700 0o006400 (op.Number Mark)
    ∷ row (codes "EMT   ") 0o177400 0o104000 (op.Number Emt)
    ∷ row (codes "TRAP  ") 0o177400 0o104400 (op.Number Trap)
    ∷ row (codes "HALT  ") 0o177777 0o000000 (op.Bare Halt)
    ∷ row (codes "WAIT  ") 0o177777 0o000001 (op.Bare Wait)
    ∷ row (codes "RTI   ") 0o177777 0o000002 (op.Bare Rti)
    ∷ row (codes "BPT   ") 0o177777 0o000003 (op.Bare Bpt)
    ∷ row (codes "IOT   ") 0o177777 0o000004 (op.Bare Iot)
    ∷ row (codes "RESET ") 0o177777 0o000005 (op.Bare Reset)
    ∷ row (codes "RTT   ") 0o177777 0o000006 (op.Bare Rtt)
    ∷ row (codes "      ") 0o177760 0o000240 (op.Condition Clear)
    ∷ row (codes "      ") 0o177760 0o000260 (op.Condition Set)
    ∷ row (codes "BR    ") 0o177400 0o000400 (op.Branch Br)
    ∷ row (codes "BNE   ") 0o177400 0o001000 (op.Branch Bne)
    ∷ row (codes "BEQ   ") 0o177400 0o001400 (op.Branch Beq)
    ∷ row (codes "BGE   ") 0o177400 0o002000 (op.Branch Bge)
    ∷ row (codes "BLT   ") 0o177400 0o002400 (op.Branch Blt)
    ∷ row (codes "BGT   ") 0o177400 0o003000 (op.Branch Bgt)
    ∷ row (codes "BLE   ") 0o177400 0o003400 (op.Branch Ble)
    ∷ row (codes "BPL   ") 0o177400 0o100000 (op.Branch Bpl)
    ∷ row (codes "BMI   ") 0o177400 0o100400 (op.Branch Bmi)
    ∷ row (codes "BHI   ") 0o177400 0o101000 (op.Branch Bhi)
    ∷ row (codes "BLOS  ") 0o177400 0o101400 (op.Branch Blos)
    ∷ row (codes "BVC   ") 0o177400 0o102000 (op.Branch Bvc)
    ∷ row (codes "BVS   ") 0o177400 0o102400 (op.Branch Bvs)
    ∷ row (codes "BCC   ") 0o177400 0o103000 (op.Branch Bcc)
    ∷ row (codes "BCS   ") 0o177400 0o103400 (op.Branch Bcs)
    ∷ []

-- the condition codes that four bits name: N is octal 10, Z 4, V 2, C 1
abbrev pub condition_codes_of : ℕ → ConditionCodes
condition_codes_of bits = record {
  negative = bits / 0o10 % 2 == 1;
  zero = bits / 4 % 2 == 1;
  overflow = bits / 2 % 2 == 1;
  carry = bits % 2 == 1;
}

-- ---- the second list: other names for codes that are in the first one
unfoldable pub other_names : List Row
other_names =
    row (codes "BHIS  ") 0o177400 0o103000 (op.Branch Bcc)
    ∷ row (codes "BLO   ") 0o177400 0o103400 (op.Branch Bcs)
    ∷ row (codes "CALL  ") 0o177700 0o004700 op.Call
    ∷ row (codes "RETURN") 0o177777 0o000207 op.Return
    ∷ row (codes "NOP   ") 0o177777 0o000240 (op.Codes Clear (condition_codes_of 0o00))
    ∷ row (codes "CLC   ") 0o177777 0o000241 (op.Codes Clear (condition_codes_of 0o01))
    ∷ row (codes "CLV   ") 0o177777 0o000242 (op.Codes Clear (condition_codes_of 0o02))
    ∷ row (codes "CLZ   ") 0o177777 0o000244 (op.Codes Clear (condition_codes_of 0o04))
    ∷ row (codes "CLN   ") 0o177777 0o000250 (op.Codes Clear (condition_codes_of 0o10))
    ∷ row (codes "CCC   ") 0o177777 0o000257 (op.Codes Clear (condition_codes_of 0o17))
    ∷ row (codes "SEC   ") 0o177777 0o000261 (op.Codes Set (condition_codes_of 0o01))
    ∷ row (codes "SEV   ") 0o177777 0o000262 (op.Codes Set (condition_codes_of 0o02))
    ∷ row (codes "SEZ   ") 0o177777 0o000264 (op.Codes Set (condition_codes_of 0o04))
    ∷ row (codes "SEN   ") 0o177777 0o000270 (op.Codes Set (condition_codes_of 0o10))
    ∷ row (codes "SCC   ") 0o177777 0o000277 (op.Codes Set (condition_codes_of 0o17))
    ∷ []

-- ---- the meaning of a word

-- a word matches a row if its bits under the row's mask have the row's value
abbrev pub is_of : ℕ → Row → Bool
is_of word row = bit_and word row.mask == row.value

-- the number in a code: its low six bits for MARK, its low eight for EMT and TRAP
abbrev pub number_in : NumberOp → ℕ → ℕ
number_in Mark word = word % 0o100
number_in Emt word = word % 0o400
number_in Trap word = word % 0o400

-- The instruction of an operation, with the fields of the word: three bits for a register, six for an operand or the count of SOB, four for
-- condition codes, eight for the signed offset of a branch, and those of `number_in` for a number. CALL and RETURN have the register PC,
-- and a name such as CLC has condition codes of its own.
abbrev pub with_fields : Op → ℕ → Insn
with_fields (op.Double operation size) word =
    insn.Double operation size (operand_of (word / 0o100 % 0o100)) (operand_of (word % 0o100))
with_fields (op.Extended operation) word =
    insn.Extended operation (register_of (word / 0o100 % 0o10)) (operand_of (word % 0o100))
with_fields (op.Register operation) word =
    insn.Register operation (register_of (word / 0o100 % 0o10)) (operand_of (word % 0o100))
with_fields op.Sob word = insn.Sob (register_of (word / 0o100 % 0o10)) (word % 0o100)
with_fields (op.Single operation size) word = insn.Single operation size (operand_of (word % 0o100))
with_fields op.Rts word = insn.Rts (register_of (word % 0o10))
with_fields (op.Number operation) word = insn.Number operation (number_in operation word)
with_fields (op.Bare operation) word = insn.Bare operation
with_fields (op.Condition operation) word = insn.Condition operation (condition_codes_of (word % 0o20))
with_fields (op.Branch operation) word = insn.Branch operation (cast_signed w8 (word % 0o400))
with_fields op.Call word = insn.Register Jsr Pc (operand_of (word % 0o100))
with_fields op.Return word = insn.Rts Pc
with_fields (op.Codes operation condition_codes) word = insn.Condition operation condition_codes

-- the row that a word matches, if there is one
unfoldable pub row_of : ℕ → Option Row
row_of word = find (is_of word) rows

-- the operation of a row, if there is a row
abbrev pub operation_in : Option Row → Option Op
operation_in None = None
operation_in (Some row) = Some row.operation

-- the operation of a word, if it matches a row
abbrev pub operation_of : ℕ → Option Op
operation_of word = operation_in (row_of word)

-- the instruction that a word means: its operation, with the fields of the word; or, if it has no operation, a reserved code
abbrev pub meaning : Option Op → ℕ → Insn
meaning None word = insn.Reserved word
meaning (Some operation) word = with_fields operation word

-- the instruction that a word means, according to the list
abbrev pub instruction_of : ℕ → Insn
instruction_of word = meaning (operation_of word) word

-- the word matches at most one row
abbrev pub HasOneMeaning : ℕ → Type 0
HasOneMeaning word = count_by (is_of word) rows ≤ 1

-- the word has 16 bits and means this instruction
abbrev pub IsCodeOf : Insn → ℕ → Type 0
IsCodeOf instruction word = (word < 0o200000) × (instruction_of word ≡ instruction)

-- some word is the code of this instruction
abbrev pub HasCode : Insn → Type 0
HasCode instruction = (word : ℕ) × IsCodeOf instruction word

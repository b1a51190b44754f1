-- The codes of instructions: an operation's bits, with the instruction's fields at their positions; and which instructions fit, and so have
-- a code. (PDP-11/40 Processor Handbook, "Instruction set".)
use Rattle.std.specs.Prelude.{ℕ, ◌+◌, ◌*◌, ◌<◌, Bool, true, false, nat_lt, is_none, FitsSigned, ⊤}
use Rattle.std.specs.Int.{cast_unsigned, from_bool, w8}
use Rattle.m11_base.specs.declared.instruction.DoubleOp.{DoubleOp}
use Rattle.m11_base.specs.declared.instruction.ExtendedOp.{ExtendedOp}
use Rattle.m11_base.specs.declared.instruction.RegisterOp.{RegisterOp}
use Rattle.m11_base.specs.declared.instruction.SingleOp.{SingleOp}
use Rattle.m11_base.specs.declared.instruction.NumberOp.{NumberOp}
use Rattle.m11_base.specs.declared.instruction.BareOp.{BareOp}
use Rattle.m11_base.specs.declared.instruction.ConditionOp.{ConditionOp}
use Rattle.m11_base.specs.declared.instruction.BranchOp.{BranchOp}
use Rattle.m11_base.specs.declared.instruction.DoubleOp.TheVariants.{Mov, Cmp, Bit, Bic, Bis, Add, Sub}
use Rattle.m11_base.specs.declared.instruction.ExtendedOp.TheVariants.{Mul, Div, Ash, Ashc}
use Rattle.m11_base.specs.declared.instruction.RegisterOp.TheVariants.{Jsr, Xor}
use Rattle.m11_base.specs.declared.instruction.SingleOp.TheVariants.{Jmp, Swab, Clr, Com, Inc, Dec, Neg, Adc, Sbc, Tst, Ror, Rol, Asr, Asl, Sxt}
use Rattle.m11_base.specs.declared.instruction.NumberOp.TheVariants.{Mark, Emt, Trap}
use Rattle.m11_base.specs.declared.instruction.BareOp.TheVariants.{Halt, Wait, Rti, Bpt, Iot, Reset, Rtt}
use Rattle.m11_base.specs.declared.instruction.ConditionOp.TheVariants.{Clear, Set}
use Rattle.m11_base.specs.declared.instruction.BranchOp.TheVariants.{Br, Bne, Beq, Bge, Blt, Bgt, Ble, Bpl, Bmi, Bhi, Blos, Bvc, Bvs, Bcc, Bcs}
use Rattle.m11_base.specs.declared.instruction.ConditionCodes.{ConditionCodes}
use Rattle.m11_base.specs.declared.instruction.Insn.{Insn}
use Rattle.m11_base.specs.declared.instruction.Insn.TheVariants as insn
use Rattle.m11_base.specs.declared.operand.Size.{Size}
use Rattle.m11_base.specs.declared.operand.Size.TheVariants.{Word, Byte}
use Rattle.m11_base.specs.Instructions.{row_of}
use Rattle.m11_base.specs.Operand.{operand_code, register_number}

-- ---- the bits of each operation in its form for words, of the size, and of condition codes

abbrev pub double_value : DoubleOp → ℕ
double_value Mov = 0o010000
double_value Cmp = 0o020000
double_value Bit = 0o030000
double_value Bic = 0o040000
double_value Bis = 0o050000
double_value Add = 0o060000
double_value Sub = 0o160000

abbrev pub extended_value : ExtendedOp → ℕ
extended_value Mul = 0o070000
extended_value Div = 0o071000
extended_value Ash = 0o072000
extended_value Ashc = 0o073000

abbrev pub register_value : RegisterOp → ℕ
register_value Jsr = 0o004000
register_value Xor = 0o074000

abbrev pub single_value : SingleOp → ℕ
single_value Jmp = 0o000100
single_value Swab = 0o000300
single_value Clr = 0o005000
single_value Com = 0o005100
single_value Inc = 0o005200
single_value Dec = 0o005300
single_value Neg = 0o005400
single_value Adc = 0o005500
single_value Sbc = 0o005600
single_value Tst = 0o005700
single_value Ror = 0o006000
single_value Rol = 0o006100
single_value Asr = 0o006200
single_value Asl = 0o006300
single_value Sxt = 0o006700

abbrev pub number_value : NumberOp → ℕ
number_value Mark = 0o006400
number_value Emt = 0o104000
number_value Trap = 0o104400

abbrev pub bare_value : BareOp → ℕ
bare_value Halt = 0o000000
bare_value Wait = 0o000001
bare_value Rti = 0o000002
bare_value Bpt = 0o000003
bare_value Iot = 0o000004
bare_value Reset = 0o000005
bare_value Rtt = 0o000006

abbrev pub condition_value : ConditionOp → ℕ
condition_value Clear = 0o000240
condition_value Set = 0o000260

abbrev pub branch_value : BranchOp → ℕ
branch_value Br = 0o000400
branch_value Bne = 0o001000
branch_value Beq = 0o001400
branch_value Bge = 0o002000
branch_value Blt = 0o002400
branch_value Bgt = 0o003000
branch_value Ble = 0o003400
branch_value Bpl = 0o100000
branch_value Bmi = 0o100400
branch_value Bhi = 0o101000
branch_value Blos = 0o101400
branch_value Bvc = 0o102000
branch_value Bvs = 0o102400
branch_value Bcc = 0o103000
branch_value Bcs = 0o103400

-- the bits that the size adds to the code of an operation: none for words, and the highest bit for bytes
abbrev pub size_value : Size → ℕ
size_value Word = 0
size_value Byte = 0o100000

-- the low four bits of a code that clears or sets these condition codes: N is octal 10, Z 4, V 2, C 1
abbrev pub condition_bits : ConditionCodes → ℕ
condition_bits codes =
    from_bool codes.negative * 0o10 + from_bool codes.zero * 0o4 + from_bool codes.overflow * 0o2
    + from_bool codes.carry

-- ---- the code of an instruction that fits

abbrev pub code_of : Insn → ℕ
code_of (insn.Double operation size source destination) =
    double_value operation + size_value size + operand_code source * 0o100 + operand_code destination
code_of (insn.Extended operation register source) =
    extended_value operation + register_number register * 0o100 + operand_code source
code_of (insn.Register operation register destination) =
    register_value operation + register_number register * 0o100 + operand_code destination
code_of (insn.Sob register count) = 0o077000 + register_number register * 0o100 + count
code_of (insn.Single operation size operand) = single_value operation + size_value size + operand_code operand
code_of (insn.Rts register) = 0o000200 + register_number register
code_of (insn.Number operation number) = number_value operation + number
code_of (insn.Bare operation) = bare_value operation
code_of (insn.Condition operation codes) = condition_value operation + condition_bits codes
code_of (insn.Branch operation offset) = branch_value operation + cast_unsigned w8 offset
code_of (insn.Reserved word) = word

-- ---- what fits: an operation that the list has in its size, with fields that fit their bits; or a word that matches no row of the list

abbrev pub has_double : DoubleOp → Size → Bool
has_double Add Byte = false
has_double Sub Byte = false
has_double _ _ = true

abbrev pub has_single : SingleOp → Size → Bool
has_single Jmp Byte = false
has_single Swab Byte = false
has_single Sxt Byte = false
has_single _ _ = true

-- the exclusive upper limit of the number in an operation's code
abbrev pub number_limit : NumberOp → ℕ
number_limit Mark = 0o100
number_limit Emt = 0o400
number_limit Trap = 0o400

abbrev pub fits : Insn → Bool
fits (insn.Double operation size source destination) = has_double operation size
fits (insn.Single operation size operand) = has_single operation size
fits (insn.Sob register count) = nat_lt count 0o100
fits (insn.Number operation number) = nat_lt number (number_limit operation)
fits (insn.Reserved word) = is_none (row_of word)
fits _ = true

-- the offset of a branch and the word of a reserved code are in the ranges of their types; this says nothing about other instructions
abbrev pub IsHeld : Insn → Type 0
IsHeld (insn.Branch operation offset) = FitsSigned w8 offset
IsHeld (insn.Reserved word) = word < 0o200000
IsHeld _ = ⊤

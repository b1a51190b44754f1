-- Operands: a mode and a register in six bits of an instruction. (PDP-11/40 Processor Handbook,
-- "Addressing modes".)
use Rattle.std.specs.Prelude.{ℕ, ◌+◌, ◌*◌, ◌/◌, ◌%◌, List, [], ◌∷◌, slice_index_or}
use Rattle.m11_base.specs.declared.operand.Mode.{Mode}
use Rattle.m11_base.specs.declared.operand.Mode.TheVariants as mode
use Rattle.m11_base.specs.declared.operand.Register.{Register}
use Rattle.m11_base.specs.declared.operand.Register.TheVariants.{R0, R1, R2, R3, R4, R5, Sp, Pc}
use Rattle.m11_base.specs.declared.operand.Operand.{Operand}

-- the modes, each at the index of its code
abbrev pub modes : List Mode
modes = mode.Register ∷ mode.RegisterDeferred ∷ mode.Autoincrement ∷ mode.AutoincrementDeferred
    ∷ mode.Autodecrement ∷ mode.AutodecrementDeferred ∷ mode.Index ∷ mode.IndexDeferred ∷ []

-- the registers, each at the index of its number
abbrev pub registers : List Register
registers = R0 ∷ R1 ∷ R2 ∷ R3 ∷ R4 ∷ R5 ∷ Sp ∷ Pc ∷ []

abbrev pub register_of : ℕ → Register
register_of number = slice_index_or registers number R0

abbrev pub mode_of : ℕ → Mode
mode_of code = slice_index_or modes code mode.Register

-- the operand in six bits: the mode's code, and below it the number of the register
abbrev pub operand_of : ℕ → Operand
operand_of bits = record { mode = mode_of (bits / 0o10); register = register_of (bits % 0o10) }

-- ---- from registers, modes and operands to their codes

abbrev pub register_number : Register → ℕ
register_number R0 = 0
register_number R1 = 1
register_number R2 = 2
register_number R3 = 3
register_number R4 = 4
register_number R5 = 5
register_number Sp = 6
register_number Pc = 7

abbrev pub mode_code : Mode → ℕ
mode_code mode.Register = 0
mode_code mode.RegisterDeferred = 1
mode_code mode.Autoincrement = 2
mode_code mode.AutoincrementDeferred = 3
mode_code mode.Autodecrement = 4
mode_code mode.AutodecrementDeferred = 5
mode_code mode.Index = 6
mode_code mode.IndexDeferred = 7

abbrev pub operand_code : Operand → ℕ
operand_code operand = mode_code operand.mode * 0o10 + register_number operand.register

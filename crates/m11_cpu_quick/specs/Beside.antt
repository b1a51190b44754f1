-- A machine whose registers are passed separately from it, and the program counter separately from the registers. (This project's own.)
use Rattle.std.specs.Prelude.{ℕ, ◌+◌, ◌%◌, List, slice_set}
use Rattle.m11_base.specs.declared.operand.Size.{Size}
use Rattle.m11_base.specs.declared.operand.Size.TheVariants.{Word, Byte}
use Rattle.m11_cpu_machine.specs.Addressing.{without_low_byte}
use Rattle.m11_cpu_machine.specs.DoubleOperands.{sign_extended}
use Rattle.m11_cpu_machine.specs.Memory.{with_byte, with_word}
use Rattle.m11_cpu_machine.specs.declared.machine.Machine.{Machine}

-- the machine with these registers and this program counter
abbrev pub shown : ℕ → List ℕ → Machine → Machine
shown counter registers m = record m { registers = slice_set registers 7 counter }

-- the word itself for a word operand, or its low byte for a byte operand
abbrev pub low : Size → ℕ → ℕ
low Word value = value
low Byte value = value % 256

-- a machine after a word, or its low byte, was stored in memory
abbrev pub stored : Size → ℕ → ℕ → Machine → Machine
stored Word address value m = record m { memory = with_word address value m.memory }
stored Byte address value m = record m { memory = with_byte address (value % 256) m.memory }

-- the value of a register after a result is stored in it; a byte leaves the high byte unchanged
abbrev pub with_low : Size → ℕ → ℕ → ℕ
with_low Word old value = value
with_low Byte old value = without_low_byte old + value % 256

-- the value that MOV or MOVB stores in a register: the word, or the byte sign-extended to a word
abbrev pub moved : Size → ℕ → ℕ
moved Word value = value
moved Byte value = sign_extended value

-- Lines of a source: instructions and data. (MACRO-11 Language Reference Manual, "Assembler statements", "Branch instruction
-- addressing", ".WORD directive", ".BYTE directive".)
use Rattle.std.specs.Prelude.{ℕ}
use Rattle.m11_base.specs.Devices.{Bytes}
use Rattle.m11_base.specs.declared.operand.Register.{Register}
use Rattle.m11_base_disassembly.specs.Arguments.{Argument}

-- the operands of an operation: none; one or two operands; the target of a branch; a register and the target of SOB; or a number
pub data Operands : Type 0 where
  Nothing : Operands
  One : Argument → Operands
  Two : Argument → Argument → Operands
  Target : ℕ → Operands
  Loop : Register → ℕ → Operands
  Number : ℕ → Operands

-- the name of an operation, padded with spaces to six characters, and its operands; or a word or byte of data
pub data Statement : Type 0 where
  Named : Bytes → Operands → Statement
  DataWord : ℕ → Statement
  DataByte : ℕ → Statement

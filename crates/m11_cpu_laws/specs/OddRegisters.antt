-- The extended instruction set with an odd register, R1, R3, R5 or the program counter, which serves as both words of its pair.
-- (PDP-11/40 Processor Handbook, "Extended instruction set". This use of an odd register by DIV and ASHC is this project's own.)
use Rattle.std.specs.Prelude.{◌≡◌, ℕ, ◌%◌, ◌==◌, Bool, true, length}
use Rattle.m11_cpu_arithmetic.specs.Extended.{division_of, product_of}
use Rattle.m11_cpu_arithmetic.specs.Shifts.{shift_pair_result}
use Rattle.m11_cpu_arithmetic.specs.declared.results.Division.TheVariants.{Done, Refused}
use Rattle.m11_base.specs.Operand.{register_number}
use Rattle.m11_base.specs.declared.instruction.ConditionCodes.{ConditionCodes}
use Rattle.m11_base.specs.declared.instruction.ExtendedOp.TheVariants.{Mul, Div, Ashc}
use Rattle.m11_base.specs.declared.operand.Register.{Register}
use Rattle.m11_cpu_machine.specs.Extended.{extended_by}
use Rattle.m11_cpu_machine.specs.Machine.{register_of}
use Rattle.m11_cpu_machine.specs.declared.machine.Machine.{Machine}

abbrev pub is_odd_register : Register → Bool
is_odd_register register = register_number register % 2 == 1

-- once the source of MUL, DIV or ASHC is fetched, DIV and ASHC use this register as both words of the pair; afterwards the register has the
-- low word of the product (MUL) or of the shifted pair (ASHC), or the remainder (DIV); a refused division leaves it unchanged
pub record IsBothWords (register : Register) (source : ℕ) (m : Machine) : Type 0 where
  pub product : register_of register (extended_by Mul register source m)
      ≡ (product_of (register_of register m) source).low
  pub remainder : (quotient remainder : ℕ) (codes : ConditionCodes)
      → division_of (register_of register m) (register_of register m) source ≡ Done quotient remainder codes
      → register_of register (extended_by Div register source m) ≡ remainder
  pub refused : (codes : ConditionCodes)
      → division_of (register_of register m) (register_of register m) source ≡ Refused codes
      → register_of register (extended_by Div register source m) ≡ register_of register m
  pub shifted : register_of register (extended_by Ashc register source m)
      ≡ (shift_pair_result (register_of register m) (register_of register m) source).low

abbrev pub OddRegisters : Register → ℕ → Machine → Type 0
OddRegisters register source m = is_odd_register register ≡ true → length m.registers ≡ 8 → IsBothWords register source m

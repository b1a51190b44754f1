-- The operations on a source and a destination. (PDP-11/40 Processor Handbook, "Instruction set": double
-- operand instructions.)
use Rattle.std.specs.Prelude.{ℕ, false, pos, ◌+ℤ◌, ◌-ℤ◌, bit_and, bit_or, bit_xor}
use Rattle.m11_base.specs.declared.instruction.ConditionCodes.{ConditionCodes}
use Rattle.m11_base.specs.declared.instruction.DoubleOp.{DoubleOp}
use Rattle.m11_base.specs.declared.instruction.DoubleOp.TheVariants.{Mov, Cmp, Bit, Bic, Bis, Add, Sub}
use Rattle.m11_base.specs.declared.operand.Size.{Size}
use Rattle.m11_base.specs.declared.operand.Size.TheVariants.{Word}
use Rattle.m11_cpu_arithmetic.specs.declared.results.Computed.{Computed}
use Rattle.m11_cpu_arithmetic.specs.Sizes.{signed, complement}
use Rattle.m11_cpu_arithmetic.specs.Results.{with_codes, exact_result}

abbrev pub sum : Size → ℕ → ℕ → Computed
sum size first second = exact_result size (pos first +ℤ pos second) (signed size first +ℤ signed size second)

abbrev pub difference : Size → ℕ → ℕ → Computed
difference size first second =
    exact_result size (pos first -ℤ pos second) (signed size first -ℤ signed size second)

-- the result of an operation on its source and its destination; `codes` are the condition codes before the operation; the results
-- of CMP and BIT are stored nowhere
unfoldable pub double_result : DoubleOp → Size → ℕ → ℕ → ConditionCodes → Computed
double_result Mov size source destination codes = with_codes size source false codes.carry
double_result Cmp size source destination codes = difference size source destination
double_result Bit size source destination codes = with_codes size (bit_and source destination) false codes.carry
double_result Bic size source destination codes =
    with_codes size (bit_and (complement size source) destination) false codes.carry
double_result Bis size source destination codes = with_codes size (bit_or source destination) false codes.carry
double_result Add size source destination codes = sum size destination source
double_result Sub size source destination codes = difference size destination source

-- the result of XOR, which operates on words only; `codes` are the condition codes before the operation
unfoldable pub exclusive_or_result : ℕ → ℕ → ConditionCodes → Computed
exclusive_or_result register destination codes = with_codes Word (bit_xor register destination) false codes.carry

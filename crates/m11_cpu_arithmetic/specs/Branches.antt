-- When branches are taken. (PDP-11/40 Processor Handbook, "Instruction set": branches.)
use Rattle.std.specs.Prelude.{Bool, true, not, ◌||◌}
use Rattle.m11_base.specs.declared.instruction.ConditionCodes.{ConditionCodes}
use Rattle.m11_base.specs.declared.instruction.BranchOp.{BranchOp}
use Rattle.m11_base.specs.declared.instruction.BranchOp.TheVariants.{Br, Bne, Beq, Bge, Blt, Bgt, Ble, Bpl, Bmi, Bhi, Blos, Bvc, Bvs, Bcc, Bcs}
use Rattle.m11_cpu_arithmetic.specs.Results.{differ}

unfoldable pub is_taken : BranchOp → ConditionCodes → Bool
is_taken Br codes = true
is_taken Bne codes = not codes.zero
is_taken Beq codes = codes.zero
is_taken Bge codes = not (differ codes.negative codes.overflow)
is_taken Blt codes = differ codes.negative codes.overflow
is_taken Bgt codes = not (codes.zero || differ codes.negative codes.overflow)
is_taken Ble codes = codes.zero || differ codes.negative codes.overflow
is_taken Bpl codes = not codes.negative
is_taken Bmi codes = codes.negative
is_taken Bhi codes = not (codes.carry || codes.zero)
is_taken Blos codes = codes.carry || codes.zero
is_taken Bvc codes = not codes.overflow
is_taken Bvs codes = codes.overflow
is_taken Bcc codes = not codes.carry
is_taken Bcs codes = codes.carry

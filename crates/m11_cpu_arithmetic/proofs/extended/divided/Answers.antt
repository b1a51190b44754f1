use Rattle.std.proofs.Common.{◌≡◌, false, ◌∙◌, sym, w64}
use Rattle.std.specs.Prelude.{FitsSigned}
use Rattle.m11_base.specs.declared.operand.Size.TheVariants.{Word}
use Rattle.m11_cpu_arithmetic.specs.Sizes.{overflows}
use Rattle.m11_cpu_arithmetic.proofs.Exact.{no_overflow, division_exact}
use Rattle.m11_cpu_arithmetic.proofs.extended.divided.Goals.{then-quotient-ltminus32768, else-quotient-ltminus32768}
use Rattle.m11_cpu_arithmetic.proofs.extended.divided.Goals as goal

pub returns-else-quotient-gt32767 : goal.returns-else-quotient-gt32767
returns-else-quotient-gt32767 c =
    let bits : FitsSigned w64 c.quotient-quotient.result = record { sfits = c.quotient-quotient.type_inv } in
    let fits : overflows Word c.quotient-quotient.result ≡ false =
    elim c.if-quotient-ltminus32768.branch [
      | then-quotient-ltminus32768 w ↦ absurd (cc)
      | else-quotient-ltminus32768 w ↦ no_overflow c.quotient-quotient.result bits w.if-quotient-ltminus32768.false (sym w.value-is ∙ c.if-quotient-gt32767.false)
    ] in
    division_exact c.args.dividend c.args.divisor c.quotient-quotient.result c.remainder.result c.done.result c.ranges.dividend c.ranges.divisor bits
    (record { sfits = c.remainder.type_inv }) fits c.quotient-quotient.ensures c.remainder.ensures c.done.ensures

use Rattle.std.proofs.Common.{rules}
use Rattle.m11_cpu_machine.specs.DoubleOperands.{double}
use Rattle.m11_cpu_quick.proofs.QuickDone.{bind_comes}
use Rattle.m11_cpu_quick.proofs.doubles.double_of_any.Goals as goal

pub returns-in-Some : goal.returns-in-Some
unfolding double
returns-in-Some c = record {
  some = bind_comes _ _ _ _ _ _ _ c.in_ok-value.ensures.some c.in-Some.ensures.some;
  keeps = c.double_onto.ensures.keeps;
  none = search rules;
  registers = search rules;
}

use Rattle.std.proofs.Common.{rules}
use Rattle.m11_cpu_machine.specs.DoubleOperands.{double}
use Rattle.m11_cpu_quick.proofs.QuickDone.{bind_comes}
use Rattle.m11_cpu_quick.proofs.doubles.double_to_memory.Goals as goal

pub returns-in-Some : goal.returns-in-Some
unfolding double
returns-in-Some c = record {
  some = bind_comes _ _ _ _ _ _ _ c.in_ok-value.ensures.some
      (bind_comes _ _ _ _ _ _ _ c.in-Some.ensures.some (c.double_into_memory.ensures.done _ _));
  keeps = c.double_into_memory.ensures.keeps;
  none = search rules;
  registers = search rules;
}

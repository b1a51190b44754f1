use Rattle.std.proofs.Common.{rules}
use Rattle.m11_cpu_quick.proofs.singles.single_by_use.Goals as goal

pub returns-in-Some : goal.returns-in-Some
returns-in-Some c = record {
  some = c.single_in_memory.ensures.done _ _ _ _ _ c.in-Some.ensures.some;
  keeps = c.single_in_memory.ensures.keeps;
  none = search rules;
  registers = search rules;
}

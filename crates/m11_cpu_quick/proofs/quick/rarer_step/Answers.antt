use Rattle.std.proofs.Common.{rules}
use Rattle.m11_cpu_quick.proofs.StepsMade.{made}
use Rattle.m11_cpu_quick.proofs.quick.rarer_step.Goals as goal

pub returns-clause-some : goal.returns-clause-some
returns-clause-some c =
    made c.args.counter c.in_ok-after.after c.in_ok-word.word c.args.registers.now c.rarer.new.registers c.args.machine.now
    c.rarer.new.machine (search rules) c.requires (search rules) c.in_ok-word.ensures.plain c.in_ok-word.ensures.value
    c.in_ok-after.ensures.some c.rarer.ensures.keeps

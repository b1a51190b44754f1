use Rattle.m11_cpu_quick.proofs.StepsMade.{condition_acts}
use Rattle.m11_cpu_quick.proofs.rarer.on_codes.Goals as goal

pub returns-clause-some : goal.returns-clause-some
returns-clause-some c =
    condition_acts c.args.code.word c.args.code.counter c.args.operation c.args.named c.args.registers.now c.args.machine.now
    c.apply_conditions.new.self c.requires c.apply_conditions.ensures

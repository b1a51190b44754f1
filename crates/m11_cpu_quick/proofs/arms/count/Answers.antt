use Rattle.m11_cpu_quick.specs.Beside.{shown}
use Rattle.m11_cpu_quick.proofs.StepsMade.{count_acts}
use Rattle.m11_cpu_quick.proofs.arms.count.Goals as goal

pub returns-clause-some : goal.returns-clause-some
returns-clause-some c =
    count_acts c.args.code.word (shown c.args.code.counter c.args.registers.now c.args.machine.now)
    (shown c.count_down.result c.count_down.new.registers c.args.machine.now) c.requires.operation_is
    (rw c.of_bits-register.ensures at c.count_down.ensures c.args.machine.now)

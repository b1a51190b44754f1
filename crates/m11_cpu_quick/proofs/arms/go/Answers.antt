use Rattle.m11_cpu_quick.specs.Beside.{shown}
use Rattle.m11_cpu_quick.proofs.StepsMade.{branch_acts}
use Rattle.m11_cpu_quick.proofs.arms.go.Goals as goal

pub returns-clause-some : goal.returns-clause-some
returns-clause-some c =
    branch_acts c.args.code.word c.args.operation (shown c.args.code.counter c.args.registers.now c.args.machine.now)
    (shown c.execute_branch.result c.execute_branch.new.registers c.args.machine.now) c.requires
    c.execute_branch.ensures

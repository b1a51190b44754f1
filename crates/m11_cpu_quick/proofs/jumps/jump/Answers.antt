use Rattle.m11_cpu_quick.proofs.JumpsMade.{jumps}
use Rattle.m11_cpu_quick.proofs.jumps.jump.Goals as goal

pub returns-clause-some : goal.returns-clause-some
returns-clause-some c = jumps _ _ _ _ _ _ c.args.machine.now c.in_ok-target.ensures.some

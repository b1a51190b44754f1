use Rattle.std.proofs.Common.{rules}
use Rattle.m11_cpu_quick.proofs.JumpsMade.{returns_to}
use Rattle.m11_cpu_quick.proofs.jumps.return_by_counter.Goals as goal

pub returns-clause-some : goal.returns-clause-some
returns-clause-some c =
    returns_to _ _ _ _ _ c.args.machine.now (search rules) c.held-top.ensures (search rules) c.plain.ensures.value
    c.hold.ensures

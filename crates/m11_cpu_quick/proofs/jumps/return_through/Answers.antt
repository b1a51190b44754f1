use Rattle.std.proofs.Common.{rules}
use Rattle.m11_cpu_quick.proofs.JumpsMade.{returns_through}
use Rattle.m11_cpu_quick.proofs.jumps.return_through.Goals as goal

pub returns-clause-some : goal.returns-clause-some
returns-clause-some c =
    returns_through _ _ _ _ _ _ _ _ c.args.machine.now c.requires c.held-target.ensures c.held-top.ensures (search rules)
    c.plain-popped.ensures.value c.hold.ensures c.hold-2.ensures

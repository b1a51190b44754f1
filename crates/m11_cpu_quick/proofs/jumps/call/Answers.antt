use Rattle.std.proofs.Common.{rules}
use Rattle.m11_cpu_quick.proofs.JumpsMade.{calls}
use Rattle.m11_cpu_quick.proofs.jumps.call.Goals as goal

pub returns-clause-some : goal.returns-clause-some
returns-clause-some c =
    rw c.store_plain.ensures.stored
    (calls _ _ _ _ _ _ _ _ c.args.machine.now c.in_ok-target.ensures.some (search rules) (rw c.held-top.ensures)
    c.hold-2.ensures (search rules))

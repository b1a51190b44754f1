use Rattle.std.proofs.Common.{rules}
use Rattle.m11_cpu_quick.proofs.JumpsMade.{calls_through}
use Rattle.m11_cpu_quick.proofs.jumps.call_through.Goals as goal

pub returns-clause-some : goal.returns-clause-some
returns-clause-some c =
    rw c.store_plain.ensures.stored
    (calls_through _ _ _ _ _ _ _ _ _ _ _ c.args.machine.now c.requires.general c.in_ok-target.ensures.some (search rules)
    c.held-pushed.ensures (rw c.held-top.ensures) c.hold-2.ensures c.hold-3.ensures (search rules))

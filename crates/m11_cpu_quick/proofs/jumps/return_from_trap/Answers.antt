use Rattle.std.proofs.Common.{rules}
use Rattle.m11_cpu_quick.proofs.JumpsMade.{returns_from_trap}
use Rattle.m11_cpu_quick.proofs.jumps.return_from_trap.Goals as goal

pub returns-clause-some : goal.returns-clause-some
returns-clause-some c =
    returns_from_trap _ _ _ _ _ _ _ _ c.args.machine.now c.of_bits-status.result (search rules) c.held-top.ensures
    (search rules) c.in_ok-target.ensures.plain c.in_ok-target.ensures.value c.in_ok-bits.ensures.plain c.in_ok-bits.ensures.value
    c.of_bits-status.ensures c.hold.ensures c.hold-2.ensures

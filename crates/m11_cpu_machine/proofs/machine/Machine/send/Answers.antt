use Rattle.std.proofs.Common.{refl, true, false}
use Rattle.m11_cpu_machine.specs.Access.{send}
use Rattle.m11_cpu_machine.proofs.Dialogues.{sends_at_once, comes}
use Rattle.m11_cpu_machine.proofs.machine.Machine.send.Goals as goal

pub returns-then-put_byte : goal.returns-then-put_byte
unfolding send
returns-then-put_byte g c =
    let h = rw c.if-put_byte.true at c.put_byte.ensures in sends_at_once _ _ _ _ _ true h (comes _ _ _ refl)

pub returns-else-put_byte : goal.returns-else-put_byte
unfolding send
returns-else-put_byte g c =
    let h = rw c.if-put_byte.false at c.put_byte.ensures in sends_at_once _ _ _ _ _ false h (comes _ _ _ refl)

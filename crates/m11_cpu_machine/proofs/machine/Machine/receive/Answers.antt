use Rattle.std.proofs.Common.{rules, refl}
use Rattle.m11_cpu_machine.specs.Access.{receive}
use Rattle.m11_cpu_machine.specs.Dialogue.{Gives, Ends, Fails}
use Rattle.m11_cpu_machine.proofs.Dialogues.{asks, comes}
use Rattle.m11_cpu_machine.proofs.machine.Machine.receive.Goals as goal

pub returns-in-Ok-Some : goal.returns-in-Ok-Some
unfolding receive
returns-in-Ok-Some g c =
    let h = rw c.in-Ok-Some.field-0-is at c.in-Ok-Some.ensures in
    asks _ _ _ _ _ (Gives c.in-Ok-Some.byte) (h.gives, h.counts, search rules) (comes _ _ _ refl)

pub returns-in-Ok-None : goal.returns-in-Ok-None
unfolding receive
returns-in-Ok-None g c =
    let h = rw c.in-Ok-None.field-0-is at c.in-Ok-None.ensures in
    asks _ _ _ _ _ Ends (h.gives, h.counts) (comes _ _ _ refl)

pub returns-in-Err : goal.returns-in-Err
unfolding receive
returns-in-Err g c =
    asks _ _ _ _ _ Fails (c.in-Err.ensures.gives, c.in-Err.ensures.counts) (comes _ _ _ refl)

use Rattle.std.proofs.Common.{sym, ◌∙◌, ap, length, arith}
use Rattle.m11_obj.proofs.Walks.{walks, walk_ends}
use Rattle.m11_obj.proofs.relocation_walk.RelocationsIterator.next.Goals as goal

pub invariant_of-self : goal.invariant_of-self
invariant_of-self c =
    (walks c.self.inside.rest.now c.in-Ok.relocation c.in-Ok.rest.now c.self.invariant c.in-Ok.ensures).are

pub returns-in-Ok-clause-steps : goal.returns-in-Ok-clause-steps
returns-in-Ok-clause-steps c =
    sym c.self.view_is ∙ (walks c.self.inside.rest.now c.in-Ok.relocation c.in-Ok.rest.now c.self.invariant
    c.in-Ok.ensures).left

pub returns-in-Ok-clause-goes : goal.returns-in-Ok-clause-goes
returns-in-Ok-clause-goes c =
    let left =
    sym c.self.view_is ∙ (walks c.self.inside.rest.now c.in-Ok.relocation c.in-Ok.rest.now c.self.invariant
    c.in-Ok.ensures).left in
    record { on = λ _. (tt, tt, omega (arith, ap length left)); keeps = tt; rests = λ _. tt }

pub returns-in-Err-clause-steps : goal.returns-in-Err-clause-steps
returns-in-Err-clause-steps c =
    let none =
    sym c.self.view_is ∙ walk_ends c.self.inside.rest.now c.in-Err.field-0 c.self.invariant c.in-Err.ensures in
    (none, none)

use Rattle.std.proofs.Common.{sym, ◌∙◌, arith}
use Rattle.std.proofs.lemmas.Bool.{eqb-true, eqb-false}
use Rattle.m11_obj.proofs.Unread.{none_next, one_next, fault_next}
use Rattle.m11_obj.proofs.contents.UnreadRelocations.read_next.Goals as goal

pub returns-then-is_empty : goal.returns-then-is_empty
returns-then-is_empty c = none_next c.self.inside.rest.now c.self.view_is
    (omega (arith, eqb-true _ 0 (sym c.is_empty.ensures ∙ c.if-is_empty.true)))

pub returns-in-Ok : goal.returns-in-Ok
returns-in-Ok c =
    one_next c.self.inside.rest.now c.in-Ok.rest.now c.in-Ok.relocation c.self.view_is c.in-Ok.ensures

pub returns-in-Err : goal.returns-in-Err
returns-in-Err c = fault_next c.self.inside.rest.now c.in-Err.fault c.self.view_is
    (omega (arith, eqb-false _ 0 (sym c.is_empty.ensures ∙ c.if-is_empty.false))) c.in-Err.ensures

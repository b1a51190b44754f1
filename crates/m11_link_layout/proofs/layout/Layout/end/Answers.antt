use Rattle.m11_link_layout.proofs.Ending.{ended_seen, end_refused}
use Rattle.m11_link_layout.proofs.layout.Layout.end.Goals as goal

pub returns-in-Ok-clause-ends : goal.returns-in-Ok-clause-ends
returns-in-Ok-clause-ends c =
    λ bottom before s. ended_seen bottom before c.end_in_place.new.self c.plan_of.result c.layout.view_is
    (c.in-Ok.ensures.takes bottom before s) c.plan_of.ensures

pub returns-in-Err-clause-ends : goal.returns-in-Err-clause-ends
returns-in-Err-clause-ends c =
    λ bottom before s. end_refused bottom before c.in-Err.fault (c.in-Err.ensures.inside s.fault)
    (c.in-Err.ensures.takes bottom before s)

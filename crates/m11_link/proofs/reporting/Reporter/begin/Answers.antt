use Rattle.std.proofs.Common.{sym}
use Rattle.m11_link.proofs.Entering.{front_set, goes_stopped_alone}
use Rattle.m11_link.proofs.reporting.Reporter.begin.Goals as goal

pub returns-in_err-self-inside-clause-writes : goal.returns-in_err-self-inside-clause-writes
returns-in_err-self-inside-clause-writes g c = λ tape. rw (sym c.self.view_is)
    (goes_stopped_alone _ _ _ _ _ _ _ (c.in_err-self-inside.ensures.writes tape) c.from_residual.ensures.1)

pub returns-clause-writes : goal.returns-clause-writes
returns-clause-writes g c = λ tape. front_set c.args.self.now c.in_ok-self-inside.field-0 _ _ c.self.view_is
    (c.in_ok-self-inside.ensures.writes tape) c.in_ok-self-inside.ensures.count

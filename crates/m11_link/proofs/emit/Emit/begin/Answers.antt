use Rattle.m11_link.proofs.Emitted.{begin_stopped, begun_before, begun_now}
use Rattle.m11_link.proofs.emit.Emit.begin.Goals as goal

pub returns-then-self-clause-writes : goal.returns-then-self-clause-writes
returns-then-self-clause-writes g c = λ tape. begun_before c.args.self.now c.self.view_is _ c.if-self.true

pub returns-in_err-begin-clause-writes : goal.returns-in_err-begin-clause-writes
returns-in_err-begin-clause-writes g c = λ tape. begin_stopped c.args.self.now c.self.view_is _ _ _ _ _ _ c.if-self.false
    (c.in_err-begin.ensures.writes tape) c.from_residual.ensures.1

pub returns-clause-writes : goal.returns-clause-writes
returns-clause-writes g c = λ tape. begun_now c.args.self.now c.self.view_is _ _ _ c.if-self.false (c.in_ok-begin.ensures.writes tape)

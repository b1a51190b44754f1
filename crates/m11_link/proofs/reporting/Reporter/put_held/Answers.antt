use Rattle.std.proofs.Common.{sym}
use Rattle.m11_link.specs.Outputs.{link}
use Rattle.m11_base_writes.proofs.Writing.{gains_nothing}
use Rattle.m11_link.proofs.reporting.Reporter.put_held.Goals as goal

pub returns-then-self : goal.returns-then-self
returns-then-self g c = λ map messages. rw (sym c.self.view_is) (rw c.if-self.true (c.put.ensures map messages))

pub returns-else-self : goal.returns-else-self
returns-else-self g c = λ map messages. rw (sym c.self.view_is) (rw c.if-self.false (gains_nothing link _))

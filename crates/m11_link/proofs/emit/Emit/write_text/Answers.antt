use Rattle.m11_link.specs.Emit.{held_writes, with_text}
use Rattle.m11_link.proofs.Emitted.{written_then}
use Rattle.m11_link.proofs.Entering.{goes_stopped}
use Rattle.m11_link.proofs.emit.Emit.write_text.Goals as goal

pub returns-in_err-begin-clause-writes : goal.returns-in_err-begin-clause-writes
returns-in_err-begin-clause-writes g c = goes_stopped _ _ _ _ _ _ _ _ (c.in_err-begin.ensures.writes _) c.from_residual.ensures.1

pub returns-clause-writes : goal.returns-clause-writes
returns-clause-writes g c = written_then c.args.self.now c.begin.new.self _ _ _ (λ t. held_writes t.held)
    (with_text c.args.location.module_index c.args.location.section c.args.address c.args.bytes.now)
    c.hold_text.new.self c.hold_text.result c.self.view_is (c.in_ok-begin.ensures.writes _) (c.hold_text.ensures _ _)

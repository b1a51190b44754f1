use Rattle.m11_asm_outputs.specs.Outputs.{assembly}
use Rattle.m11_base_writes.proofs.Writing.{stopped_alone}
use Rattle.m11_asm_outputs.proofs.Looping.{writes_as}
use Rattle.m11_asm.proofs.Putting.{flagged, gains_as, unflagged, writes_nothing}
use Rattle.m11_asm.proofs.writing.Writing.report.Goals as goal

pub returns-then-is_empty-clause-writes : goal.returns-then-is_empty-clause-writes
returns-then-is_empty-clause-writes g c = λ object listing.
    writes_nothing _ _ (unflagged c.args.flags.0 c.args.number c.args.text.now (c.if-is_empty.ensures tt))

pub returns-in_err-put_flagged-clause-writes : goal.returns-in_err-put_flagged-clause-writes
returns-in_err-put_flagged-clause-writes g c = λ object listing.
    writes_as _ _ _ _ _ (flagged c.args.flags.0 c.args.number c.args.text.now (c.if-is_empty.ensures tt))
    (stopped_alone assembly _ _ _ _ _ (c.in_err-put_flagged.ensures.writes object listing) c.from_residual.ensures.1)

pub returns-clause-writes : goal.returns-clause-writes
returns-clause-writes g c = λ object listing.
    gains_as _ _ _ _ (flagged c.args.flags.0 c.args.number c.args.text.now (c.if-is_empty.ensures tt))
    (c.in_ok-put_flagged.ensures.writes object listing)

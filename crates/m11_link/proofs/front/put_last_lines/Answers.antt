use Rattle.std.proofs.Common.{[], ◌∷◌}
use Rattle.m11_link_text.specs.Findings.{planned}
use Rattle.m11_link_text.specs.Lines.{transfer_line}
use Rattle.m11_link.specs.Outputs.{link}
use Rattle.m11_base_writes.specs.Outputs.{to_report}
use Rattle.m11_base_writes.proofs.Writing.{stopped_first, writes_then}
use Rattle.m11_link.proofs.front.put_last_lines.Goals as goal

pub returns-in_err-put_report-clause-writes : goal.returns-in_err-put_report-clause-writes
returns-in_err-put_report-clause-writes g c = λ tape messages. stopped_first link _ _
    (to_report (transfer_line (planned c.args.plan.now).transfer) ∷ []) _ _ _
    (rw (c.as_slice.ensures.value, c.transfer_line.ensures, c.transfer.ensures) at (c.in_err-put_report.ensures.writes tape messages))
    c.from_residual.ensures.1

pub returns-clause-writes : goal.returns-clause-writes
returns-clause-writes g c = λ tape messages. writes_then link _ _ _
    (to_report (transfer_line (planned c.args.plan.now).transfer) ∷ []) _ _
    (rw (c.as_slice.ensures.value, c.transfer_line.ensures, c.transfer.ensures) at (c.in_ok-put_report.ensures.writes tape messages))
    (rw (c.as_slice-2.ensures.value, c.limit_line.ensures, c.limits-bottom.ensures) at (c.put_report-2.ensures.writes tape messages))

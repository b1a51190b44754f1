use Rattle.std.proofs.Common.{[], ◌∷◌, codes}
use Rattle.m11_link.specs.Outputs.{link}
use Rattle.m11_base_writes.specs.Outputs.{to_report}
use Rattle.m11_base_writes.proofs.Writing.{stopped_first, writes_then}
use Rattle.m11_link.proofs.front.put_sections.Goals as goal

pub returns-in_err-put_report-clause-writes : goal.returns-in_err-put_report-clause-writes
returns-in_err-put_report-clause-writes g c = λ tape messages. stopped_first link _ _ (to_report (codes "SECTIONS\n") ∷ []) _ _ _
    (c.in_err-put_report.ensures.writes tape messages) c.from_residual.ensures.1

pub returns-clause-writes : goal.returns-clause-writes
returns-clause-writes g c = λ tape messages. writes_then link _ _ _ (to_report (codes "SECTIONS\n") ∷ []) _ _
    (c.in_ok-put_report.ensures.writes tape messages) (c.put_each_section.ensures.writes tape messages)

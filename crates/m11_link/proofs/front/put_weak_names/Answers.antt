use Rattle.std.proofs.Common.{[], ◌∷◌, codes, ◌∙◌, sym}
use Rattle.m11_link.specs.Outputs.{link}
use Rattle.m11_base_writes.specs.Outputs.{to_report}
use Rattle.m11_link.proofs.Looping.{some_weak, no_weak, weak_none, weak_some}
use Rattle.m11_base_writes.proofs.Writing.{gains_nothing, stopped_first, writes_then}
use Rattle.m11_link.proofs.front.put_weak_names.Goals as goal

pub returns-then-not-has_weak_name-clause-writes : goal.returns-then-not-has_weak_name-clause-writes
returns-then-not-has_weak_name-clause-writes g c = λ tape messages.
    rw (weak_none _ (no_weak _ (sym c.has_weak_name.ensures ∙ c.if-not-has_weak_name.true))) (gains_nothing link _)

pub returns-in_err-put_report-clause-writes : goal.returns-in_err-put_report-clause-writes
returns-in_err-put_report-clause-writes g c = λ tape messages.
    rw (weak_some _ (some_weak _ (sym c.has_weak_name.ensures ∙ c.if-not-has_weak_name.false)))
    (stopped_first link _ _ (to_report (codes "WEAK\n") ∷ []) _ _ _ (c.in_err-put_report.ensures.writes tape messages) c.from_residual.ensures.1)

pub returns-clause-writes : goal.returns-clause-writes
returns-clause-writes g c = λ tape messages.
    rw (weak_some _ (some_weak _ (sym c.has_weak_name.ensures ∙ c.if-not-has_weak_name.false)))
    (writes_then link _ _ _ (to_report (codes "WEAK\n") ∷ []) _ _ (c.in_ok-put_report.ensures.writes tape messages)
    (c.put_each_name.ensures.writes tape messages))

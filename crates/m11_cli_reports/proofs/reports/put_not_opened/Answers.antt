use Rattle.std.proofs.Common.{◌++◌, [], ◌∷◌, codes}
use Rattle.m11_cli_reports.proofs.Reporting.{at_error, begins, begins_after, then_at_error}
use Rattle.m11_cli_reports.proofs.reports.put_not_opened.Goals as goal

pub returns-in_err-put_all-clause-prefix : goal.returns-in_err-put_all-clause-prefix
returns-in_err-put_all-clause-prefix g c =
    at_error c.from_residual.result _
    (begins _ _ (codes "?M11 OPEN ") (c.args.path.now ++ 10 ∷ []) c.in_err-put_all.ensures.prefix)

pub returns-in_err-put_all-2-clause-prefix : goal.returns-in_err-put_all-2-clause-prefix
returns-in_err-put_all-2-clause-prefix g c =
    at_error c.from_residual-in_err-put_all-2.result _
    (begins_after _ _ _ (codes "?M11 OPEN ") (c.args.path.now ++ 10 ∷ [])
    c.in_ok-put_all.ensures.whole
    (begins _ _ c.args.path.now (10 ∷ []) (rw c.as_bytes.ensures.value at c.in_err-put_all-2.ensures.prefix)))

pub returns-clause-prefix : goal.returns-clause-prefix
returns-clause-prefix g c =
    then_at_error c.put_all-3.result _ _ (λ h. begins_after _ _ _ (codes "?M11 OPEN ") (c.args.path.now ++ 10 ∷ [])
    c.in_ok-put_all.ensures.whole (begins_after _ _ _ c.args.path.now (10 ∷ [])
    (rw c.as_bytes.ensures.value at c.in_ok-put_all-2.ensures.whole) h))
    c.put_all-3.ensures.prefix

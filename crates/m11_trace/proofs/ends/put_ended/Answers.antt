use Rattle.std.proofs.Common.{[], ◌∷◌}
use Rattle.std.proofs.lemmas.Result.{err_from_is_err_and}
use Rattle.m11_trace.proofs.Reports.{puts_part, puts_then}
use Rattle.m11_trace.proofs.ends.put_ended.Goals as goal

pub returns-in_err-put_text : goal.returns-in_err-put_text
returns-in_err-put_text g c =
    let r = c.from_residual in
    let p = err_from_is_err_and r.result r.ensures.1 in
    rw (p.1, p.2) (puts_part _ _ _ _ _ (10 ∷ []) _ c.in_err-put_text.ensures)

pub returns : goal.returns
returns g c = puts_then _ _ _ _ _ _ _ _ _ c.put_text-2.result c.in_ok-put_text.ensures c.put_text-2.ensures

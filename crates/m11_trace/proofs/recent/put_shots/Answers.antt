use Rattle.std.proofs.Common.{arith}
use Rattle.std.proofs.lemmas.Result.{err_from_is_err_and}
use Rattle.m11_trace.proofs.Reports.{all_lines, nothing_yet, one_more_shown, shot_failed}
use Rattle.m11_trace.proofs.recent.put_shots.Goals as goal

pub shots-init : goal.shots-init
shots-init g c = nothing_yet _ _ _ _ _ _ c.len-left.ensures.len

pub shots-preserved : goal.shots-preserved
shots-preserved g c =
    let put = c.in_ok-put_shot.ensures in
    one_more_shown _ _ _ _ _ _ _ _ _ _ _ _ c.shots.invariant (omega (arith, c.shots-test.true)) c.shot_at.ensures put.0 put.1

pub returns-in_err-put_shot : goal.returns-in_err-put_shot
returns-in_err-put_shot g c =
    let r = c.from_residual in
    let p = err_from_is_err_and r.result r.ensures.1 in
    rw (p.1, p.2) (shot_failed _ _ _ _ _ _ _ _ _ _ _ _ c.shots.invariant (omega (arith, c.shots-test.true)) c.shot_at.ensures _ c.in_err-put_shot.ensures)

pub returns : goal.returns
returns g c = all_lines _ _ _ _ _ _ _ _ c.shots.invariant (omega (arith, c.shots-test.false))

use Rattle.std.proofs.lemmas.Result.{err_from_is_err_and}
use Rattle.m11_trace.specs.Ranges.{ranges_text}
use Rattle.m11_trace.proofs.Reports.{puts_part, puts_then}
use Rattle.m11_trace.proofs.tracing.put_stop.Goals as goal

pub returns-in_err-put_ending : goal.returns-in_err-put_ending
returns-in_err-put_ending g c =
    let r = c.from_residual in
    let p = err_from_is_err_and r.result r.ensures.1 in
    rw (p.1, p.2) (puts_part _ _ _ _ _ (ranges_text c.args.machine.now.memory c.args.ranges.now) _ c.in_err-put_ending.ensures)

pub returns : goal.returns
returns g c = puts_then _ _ _ _ _ _ _ _ _ c.put_ranges.result c.in_ok-put_ending.ensures
    (rw c.memory.ensures at c.put_ranges.ensures)

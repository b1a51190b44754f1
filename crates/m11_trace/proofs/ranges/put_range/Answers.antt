use Rattle.std.proofs.Common.{◌∙◌}
use Rattle.std.proofs.lemmas.Result.{err_from_is_err_and}
use Rattle.m11_trace.specs.Ranges.{words_text}
use Rattle.m11_trace.proofs.Reports.{puts_part, puts_same, puts_then}
use Rattle.m11_trace.proofs.ranges.put_range.Goals as goal

pub returns-in_err-put_text : goal.returns-in_err-put_text
returns-in_err-put_text g c =
    let text = c.as_slice.ensures.value ∙ c.head.ensures in
    let r = c.from_residual in
    let p = err_from_is_err_and r.result r.ensures.1 in
    rw (p.1, p.2) (puts_part _ _ _ _ _ (words_text c.args.memory.now c.args.range.now) _ (puts_same _ _ _ _ _ _ _ text c.in_err-put_text.ensures))

pub returns : goal.returns
returns g c =
    let text = c.as_slice.ensures.value ∙ c.head.ensures in
    puts_then _ _ _ _ _ _ _ _ _ c.put_part.result (rw text at c.in_ok-put_text.ensures) c.put_part.ensures

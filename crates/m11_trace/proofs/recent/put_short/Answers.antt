use Rattle.std.proofs.Common.{◌∙◌}
use Rattle.std.proofs.lemmas.Result.{err_from_is_err_and}
use Rattle.m11_trace.specs.Known.{known_of}
use Rattle.m11_trace.specs.Lines.{line_end}
use Rattle.m11_trace.proofs.Reports.{puts_part, puts_same, puts_then}
use Rattle.m11_trace.proofs.recent.put_short.Goals as goal

pub returns-in_err-put_text : goal.returns-in_err-put_text
returns-in_err-put_text g c =
    let text = c.as_slice.ensures.value ∙ c.line_front.ensures.items in
    let r = c.from_residual in
    let p = err_from_is_err_and r.result r.ensures.1 in
    rw (p.1, p.2)
    (puts_part _ _ _ _ _ (line_end (known_of c.args.known) c.args.shot.now) _
    (puts_same _ _ _ _ _ _ _ text c.in_err-put_text.ensures))

pub returns : goal.returns
returns g c =
    let text = c.as_slice.ensures.value ∙ c.line_front.ensures.items in
    puts_then _ _ _ _ _ _ _ _ _ c.put_end.result (rw text at c.in_ok-put_text.ensures) c.put_end.ensures

use Rattle.std.proofs.lemmas.Result.{err_from_is_err_and}
use Rattle.m11_trace.specs.Known.{known_of}
use Rattle.m11_trace.specs.Lines.{line_end}
use Rattle.m11_trace.proofs.Reports.{puts_part, puts_then}
use Rattle.m11_trace.proofs.steps.put_rest.Goals as goal

pub returns-in_err-put_changes-clause-puts : goal.returns-in_err-put_changes-clause-puts
returns-in_err-put_changes-clause-puts g c =
    let r = c.from_residual in
    let p = err_from_is_err_and r.result r.ensures.1 in
    rw (p.1, p.2) (puts_part _ _ _ _ _ (line_end (known_of c.args.known) c.args.shot.now) _ c.in_err-put_changes.ensures.puts)

pub returns-clause-puts : goal.returns-clause-puts
returns-clause-puts g c =
    puts_then _ _ _ _ _ _ _ _ _ c.put_end.result c.in_ok-put_changes.ensures.puts c.put_end.ensures

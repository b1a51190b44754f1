use Rattle.std.proofs.Common.{◌∙◌, ◌++◌}
use Rattle.std.proofs.lemmas.Result.{err_from_is_err_and}
use Rattle.m11_cpu_machine.specs.Memory.{bytes_of}
use Rattle.m11_trace.specs.Changes.{memory_changes}
use Rattle.m11_trace.specs.Known.{known_of}
use Rattle.m11_trace.specs.Lines.{line_end}
use Rattle.m11_trace.proofs.Reports.{puts_part, puts_same, puts_then}
use Rattle.m11_trace.proofs.steps.put_line.Goals as goal

pub returns-in_err-put_text-clause-puts : goal.returns-in_err-put_text-clause-puts
returns-in_err-put_text-clause-puts g c =
    let text = c.as_slice.ensures.value ∙ c.line_front.ensures.items in
    let r = c.from_residual in
    let p = err_from_is_err_and r.result r.ensures.1 in
    rw (p.1, p.2)
    (puts_part _ _ _ _ _ (memory_changes (bytes_of c.args.before.now) c.args.memory.now ++ line_end (known_of c.args.known) c.args.shot.now) _
    (puts_same _ _ _ _ _ _ _ text c.in_err-put_text.ensures))

pub returns-clause-puts : goal.returns-clause-puts
returns-clause-puts g c =
    let text = c.as_slice.ensures.value ∙ c.line_front.ensures.items in
    puts_then _ _ _ _ _ _ _ _ _ c.put_rest.result (rw text at c.in_ok-put_text.ensures) c.put_rest.ensures.puts

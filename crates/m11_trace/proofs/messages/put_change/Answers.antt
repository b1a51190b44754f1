use Rattle.std.proofs.Common.{ℕ, List, codes, subst}
use Rattle.std.proofs.lemmas.Result.{err_from_is_err_and}
use Rattle.m11_base.specs.Octal.{octal_text}
use Rattle.m11_cpu.specs.Messages.{PutsMessages, end_text}
use Rattle.m11_cpu_machine.specs.Machine.{psw_in}
use Rattle.m11_trace.proofs.Reports.{named_text, puts_part, puts_same, puts_then}
use Rattle.m11_trace.proofs.messages.put_change.Goals as goal

pub returns-in_err-put_text : goal.returns-in_err-put_text
returns-in_err-put_text g c =
    let m = c.args.machine.now in
    let r = c.from_residual in
    let p = err_from_is_err_and r.result r.ensures.1 in
    rw (p.1, p.2) (puts_same _ _ _ _ _ _ _ (named_text (codes "CHANGED ") (octal_text c.args.address) c.args.steps m.registers (psw_in m))
    (puts_part _ _ _ _ _ (end_text (octal_text c.args.address) c.args.steps m.registers (psw_in m)) _ c.in_err-put_text.ensures))

pub returns : goal.returns
returns g c =
    let m = c.args.machine.now in
    let P : List ℕ → Type 0 = λ text. PutsMessages (g.M.Sink.text c.args.messages.now) (g.M.Sink.text c.put_named.new.messages)
    (g.M.Sink.faults c.args.messages.now) (g.M.Sink.faults c.put_named.new.messages) text c.put_named.result in
    subst P (named_text (codes "CHANGED ") (octal_text c.args.address) c.args.steps m.registers (psw_in m))
    (puts_then _ _ _ _ _ _ _ _ _ c.put_named.result c.in_ok-put_text.ensures (rw c.octal6.ensures.text at c.put_named.ensures))

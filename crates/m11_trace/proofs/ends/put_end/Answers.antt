use Rattle.std.proofs.Common.{ℕ, List, Option, [], ◌∷◌, ◌++◌, subst}
use Rattle.m11_cpu.specs.Messages.{PutsMessages}
use Rattle.m11_trace.specs.Lines.{listed_field, status_change}
use Rattle.m11_trace.proofs.ends.put_end.Goals as goal

pub returns-in-Some : goal.returns-in-Some
returns-in-Some g c =
    let P : Option (List ℕ) → Type 0 = λ o. PutsMessages (g.M.Sink.text c.args.messages.now) (g.M.Sink.text c.put_listed.new.messages)
    (g.M.Sink.faults c.args.messages.now) (g.M.Sink.faults c.put_listed.new.messages)
    (status_change c.args.shot.now.before.psw c.args.shot.now.later.psw ++ (listed_field o ++ 10 ∷ [])) c.put_listed.result in
    subst P c.in-Some.ensures c.put_listed.ensures

pub returns-in-None : goal.returns-in-None
returns-in-None g c =
    let P : Option (List ℕ) → Type 0 = λ o. PutsMessages (g.M.Sink.text c.args.messages.now) (g.M.Sink.text c.put_text.new.messages)
    (g.M.Sink.faults c.args.messages.now) (g.M.Sink.faults c.put_text.new.messages)
    (status_change c.args.shot.now.before.psw c.args.shot.now.later.psw ++ (listed_field o ++ 10 ∷ [])) c.put_text.result in
    subst P c.in-None.ensures (rw (c.as_slice.ensures.value, c.status_and.ensures) at c.put_text.ensures)

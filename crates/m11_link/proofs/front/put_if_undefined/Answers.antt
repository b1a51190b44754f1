use Rattle.std.proofs.Common.{ℕ, Option, subst, sym, refl}
use Rattle.std.proofs.lemmas.Result.{err_from_is_err_and}
use Rattle.m11_base_writes.specs.States.{output_of}
use Rattle.m11_link.specs.Front.{undefined_write, written_if}
use Rattle.m11_link.specs.Outputs.{Stops, link}
use Rattle.m11_base_writes.specs.Outputs.{outputs}
use Rattle.m11_base_writes.proofs.Writing.{gains_nothing}
use Rattle.m11_link_layout.specs.declared.fault.LinkFault.TheVariants.{NoMemory}
use Rattle.m11_link.proofs.front.put_if_undefined.Goals as goal

pub returns-in_ok-put_message-in-Some-clause-writes : goal.returns-in_ok-put_message-in-Some-clause-writes
returns-in_ok-put_message-in-Some-clause-writes g c = λ tape map. rw (sym c.in-Some.ensures)
    (rw (c.as_slice.ensures.value, c.undefined_line.ensures) at (c.in_ok-put_message-in-Some.ensures.writes tape map))

pub returns-in_err-put_message-in-Some-clause-writes : goal.returns-in_err-put_message-in-Some-clause-writes
returns-in_err-put_message-in-Some-clause-writes g c = λ tape map.
    let r = c.from_residual in
    let p = err_from_is_err_and r.result r.ensures.1 in
    rw (p.1, p.2)
    (let P : Option (ℕ × ℕ) → Type 0 = λ name. Stops (outputs tape map (output_of g.U.Sink c.args.messages.now))
    (outputs tape map (output_of g.U.Sink c.put_message.new.messages)) (written_if undefined_write name) c.in_err-put_message-in-Some.field-0.0 in
    subst P c.in-Some.ensures (rw (c.as_slice.ensures.value, c.undefined_line.ensures) at (c.in_err-put_message-in-Some.ensures.writes tape map)))

pub returns-in-None-clause-writes : goal.returns-in-None-clause-writes
returns-in-None-clause-writes g c = λ tape map. rw (sym c.in-None.ensures) (gains_nothing link _)

pub returns-in_err-put_message-in-Some-clause-no_memory : goal.returns-in_err-put_message-in-Some-clause-no_memory
returns-in_err-put_message-in-Some-clause-no_memory g c =
    let r = c.from_residual in
    let p = err_from_is_err_and r.result r.ensures.1 in
    rw (p.1, p.2)
    (c.in_err-put_message-in-Some.ensures.no_memory NoMemory refl)

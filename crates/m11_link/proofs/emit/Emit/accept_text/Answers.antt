use Rattle.std.proofs.Common.{ap, Ok, Err}
use Rattle.m11_obj.specs.Records as records
use Rattle.m11_link_modules.specs.Parts.{Text}
use Rattle.m11_link_modules.proofs.Taking.{accepted_one}
use Rattle.m11_link.proofs.Emitted.{content_refused, text_taken}
use Rattle.m11_link.proofs.emit.Emit.accept_text.Goals as goal

pub returns-in_err-text-clause-takes : goal.returns-in_err-text-clause-takes
returns-in_err-text-clause-takes g c = λ plan before stands.
    let part = Text c.args.address c.args.bytes.now in
    let broken = c.in_err-text.field-0.0 in
    content_refused plan before c.args.self.now (records.Text c.args.address c.args.bytes.now) c.self.view_is stands _ _
    c.text.new.self broken _ (accepted_one _ _ part (Err broken) c.in_err-text.ensures) c.from_residual.ensures.1

pub returns-clause-takes : goal.returns-clause-takes
returns-clause-takes g c = λ plan before stands.
    let part = Text c.args.address c.args.bytes.now in
    text_taken plan before c.args.self.now c.args.address c.args.bytes.now c.self.view_is stands _ _ c.write_text.new.self
    c.text.new.self (c.location-location.result.module_index, c.location-location.result.section) c.write_text.result
    (ap (λ l. (l.module_index, l.section)) c.location-location.ensures)
    (accepted_one _ _ part (Ok tt) c.in_ok-text.ensures) c.write_text.ensures.writes

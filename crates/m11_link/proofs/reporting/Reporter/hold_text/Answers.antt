use Rattle.m11_link.proofs.Entering.{goes_stopped_alone, text_then}
use Rattle.m11_link.proofs.reporting.Reporter.hold_text.Goals as goal

pub returns-in_err-end_text : goal.returns-in_err-end_text
returns-in_err-end_text g c = λ map messages. goes_stopped_alone _ _ _ _ _ _ _ (c.in_err-end_text.ensures map messages)
    c.from_residual.ensures.1

pub returns : goal.returns
returns g c = λ map messages. text_then _ _ c.args.self.now c.end_text.new.self c.hold.new.self
    c.args.location.module_index c.args.location.section c.args.address c.args.bytes.now
    (c.in_ok-end_text.ensures map messages) c.hold.ensures

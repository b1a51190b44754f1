use Rattle.std.proofs.Common.{Ok, Err}
use Rattle.m11_obj.specs.Records as records
use Rattle.m11_link_modules.specs.Parts.{EndOfModule}
use Rattle.m11_link_modules.proofs.Taking.{accepted_one}
use Rattle.m11_link.proofs.Emitted.{content_refused, content_taken}
use Rattle.m11_link.proofs.emit.Emit.accept_end_of_module.Goals as goal

pub returns-in_err-end_of_module-clause-takes : goal.returns-in_err-end_of_module-clause-takes
returns-in_err-end_of_module-clause-takes g c = λ plan before stands. content_refused plan before c.args.self.now records.EndOfModule
    c.self.view_is stands _ _ c.end_of_module.new.self c.in_err-end_of_module.field-0.0 _
    (accepted_one _ _ EndOfModule (Err c.in_err-end_of_module.field-0.0) c.in_err-end_of_module.ensures) c.from_residual.ensures.1

pub returns-clause-takes : goal.returns-clause-takes
returns-clause-takes g c = λ plan before stands. content_taken plan before c.args.self.now records.EndOfModule c.self.view_is stands _ _
    c.write_held.new.self c.end_of_module.new.self c.write_held.result
    (accepted_one _ _ EndOfModule (Ok tt) c.in_ok-end_of_module.ensures) c.write_held.ensures.writes

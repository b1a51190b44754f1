use Rattle.m11_link.proofs.Emitted.{end_refused, end_taken}
use Rattle.m11_link.proofs.emit.Emit.accept_end.Goals as goal

pub returns-in_err-end_of_file-clause-takes : goal.returns-in_err-end_of_file-clause-takes
returns-in_err-end_of_file-clause-takes g c = λ tape plan before stands. end_refused plan before c.args.self.now c.self.view_is stands
    _ _ c.end_of_file.new.self c.in_err-end_of_file.field-0.0 _ (c.in_err-end_of_file.ensures.takes before) c.from_residual.ensures.1

pub returns-clause-takes : goal.returns-clause-takes
returns-clause-takes g c = λ tape plan before stands. end_taken plan before c.args.self.now c.self.view_is stands
    _ _ _ c.end_of_file.new.self c.begin.result (c.in_ok-end_of_file.ensures.takes before) (c.begin.ensures.writes tape)

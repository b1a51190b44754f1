use Rattle.m11_link.proofs.Ended.{ended, ended_inside}
use Rattle.m11_link.proofs.emit.Emit.end_in_place.Goals as goal

pub returns-in_err-end_of_file-clause-ends : goal.returns-in_err-end_of_file-clause-ends
returns-in_err-end_of_file-clause-ends g c = λ plan before stands. ended_inside plan before c.args.self.now c.self.view_is
    stands _ c.end_of_file.new.self c.in_err-end_of_file.field-0.0 _ (c.in_err-end_of_file.ensures.takes before)
    c.from_residual-in_err-end_of_file.ensures.1

pub returns-clause-ends : goal.returns-clause-ends
returns-clause-ends g c = λ plan before stands. ended plan before c.args.self.now c.self.view_is stands _ _ c.end_of_file.new.self
    c.write_last.result (c.in_ok-end_of_file.ensures.takes before) c.write_last.ensures.finishes
    c.write_last.ensures.count

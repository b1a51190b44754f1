use Rattle.m11_obj.specs.Records.{Gsd}
use Rattle.m11_link.proofs.Emitted.{content_refused, directory_taken}
use Rattle.m11_link.proofs.emit.Emit.accept_entries.Goals as goal

pub returns-in_err-directory-clause-takes : goal.returns-in_err-directory-clause-takes
returns-in_err-directory-clause-takes g c = λ plan before stands. content_refused plan before c.args.self.now
    (Gsd c.args.entries.now) c.self.view_is stands _ _ c.directory.new.self c.in_err-directory.field-0.0 _
    c.in_err-directory.ensures c.from_residual.ensures.1

pub returns-clause-takes : goal.returns-clause-takes
returns-clause-takes g c = λ plan before stands. directory_taken plan before c.args.self.now c.args.entries.now c.self.view_is
    stands _ _ c.write_directory.new.self c.directory.new.self c.modules-module_index.result c.write_directory.result
    c.modules-module_index.ensures c.in_ok-directory.ensures c.write_directory.ensures.writes

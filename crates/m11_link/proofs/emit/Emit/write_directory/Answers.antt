use Rattle.m11_link.specs.Emit.{directory_writes, with_directory}
use Rattle.m11_link.proofs.Emitted.{written_then}
use Rattle.m11_link.proofs.Entering.{goes_stopped}
use Rattle.m11_link.proofs.emit.Emit.write_directory.Goals as goal

pub returns-in_err-begin-clause-writes : goal.returns-in_err-begin-clause-writes
returns-in_err-begin-clause-writes g c = goes_stopped _ _ _ _ _ _ _ _ (c.in_err-begin.ensures.writes _) c.from_residual.ensures.1

pub returns-clause-writes : goal.returns-clause-writes
returns-clause-writes g c = written_then c.args.self.now c.begin.new.self _ _ _
    (directory_writes c.args.module_index c.args.entries.now) (with_directory c.args.module_index c.args.entries.now)
    c.report_directory.new.self c.report_directory.result c.self.view_is (c.in_ok-begin.ensures.writes _) (c.report_directory.ensures _)

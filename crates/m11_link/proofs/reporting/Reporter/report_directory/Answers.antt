use Rattle.m11_link.proofs.Entering.{directory_then, goes_stopped}
use Rattle.m11_link.proofs.reporting.Reporter.report_directory.Goals as goal

pub returns-in_err-end_text : goal.returns-in_err-end_text
returns-in_err-end_text g c = λ map. goes_stopped _ _ _ _ _ _ _ _ (c.in_err-end_text.ensures map _) c.from_residual.ensures.1

pub returns : goal.returns
returns g c = λ map. directory_then _ _ _ c.args.self.now c.end_text.new.self c.report_entries.new.self c.args.module_index
    c.args.entries.now c.report_entries.result (c.in_ok-end_text.ensures map _) (c.report_entries.ensures _ map)

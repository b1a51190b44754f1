use Rattle.std.proofs.Common.{[], ◌∷◌}
use Rattle.m11_base_writes.specs.Outputs.{to_messages}
use Rattle.m11_link.proofs.Entering.{count_set, goes_stopped_alone}
use Rattle.m11_link.proofs.reporting.Reporter.report.Goals as goal

pub returns-in_err-put_message : goal.returns-in_err-put_message
returns-in_err-put_message g c = λ tape map. goes_stopped_alone _ _ _ _ _ _ _
    (rw c.as_slice.ensures.value at (c.in_err-put_message.ensures.writes tape map)) c.from_residual.ensures.1

pub returns : goal.returns
returns g c = λ tape map. (
  rw c.as_slice.ensures.value at (c.in_ok-put_message.ensures.writes tape map),
  count_set c.args.self.now _ (to_messages c.args.line.now.items ∷ []) c.self.view_is c.saturating_add-self-inside.ensures,
)

use Rattle.std.proofs.Common.{arith}
use Rattle.m11_cli_tasks.proofs.Opening.{first_lacking, next_input}
use Rattle.m11_cli_tasks.proofs.opened.open_inputs.Goals as goal

pub returns-in_err-once-clause-lacks : goal.returns-in_err-once-clause-lacks
returns-in_err-once-clause-lacks g c = grind (arith, first_lacking)

pub paths-preserved : goal.paths-preserved
paths-preserved g c = grind (arith, next_input)

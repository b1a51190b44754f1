use Rattle.std.proofs.Common.{◌∙◌, ap, sym}
use Rattle.m11_cli_tasks.proofs.Counts.{counted, counted_is}
use Rattle.m11_cli_tasks.proofs.tasks.count.Goals as goal

pub returns-in-Ok : goal.returns-in-Ok
returns-in-Ok c =
    c.count_within.ensures ∙ ap counted (sym c.in-Ok.is) ∙ counted_is c.args.text.now c.parse.result c.parse.ensures.value.0

pub returns-in-Err : goal.returns-in-Err
returns-in-Err c = ap counted (sym c.in-Err.is) ∙ counted_is c.args.text.now c.parse.result c.parse.ensures.value.0

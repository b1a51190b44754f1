use Rattle.std.proofs.Common.{◌∙◌, sym, ap}
use Rattle.m11_asm_lines.specs.Actions.{action_fields}
use Rattle.m11_asm_lines.proofs.actions.read_action_fields.Goals as goal

pub returns-in-Operate : goal.returns-in-Operate
returns-in-Operate c =
    let line = c.args.line.now.text in
    c.read_fields.ensures ∙ ap (action_fields c.args.table.now line) (sym c.in-Operate.is)

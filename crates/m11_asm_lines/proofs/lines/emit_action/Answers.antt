use Rattle.std.proofs.Common.{◌≡◌, ◌∙◌, IfOk, sym, subst, ap}
use Rattle.m11_asm_rules.specs.Contents.{followed_by}
use Rattle.m11_asm_rules.specs.Lines.{emission_by}
use Rattle.m11_asm_lines.specs.Actions.{action_fields, action_model}
use Rattle.m11_asm_lines.specs.declared.actions.Action.{Action}
use Rattle.m11_asm_lines.proofs.lines.emit_action.Goals as goal

pub emit_operation-requires-clause-fields : goal.emit_operation-requires-clause-fields
emit_operation-requires-clause-fields c =
    let line = c.args.line.now.text in
    c.requires.fields ∙ ap (action_fields c.args.table.now line) c.in-Operate.is

pub returns-in-Operate-clause-emits : goal.returns-in-Operate-clause-emits
returns-in-Operate-clause-emits c =
    let line = c.args.line.now.text in
    let P : Action → Type 0 = λ action. IfOk c.emit_operation.result (λ x. c.emit_operation.new.emission
    ≡ followed_by c.args.emission.now (emission_by c.args.map.now c.args.table.now line
    (action_model line c.args.operation.now.arguments action))) in
    subst P (sym c.in-Operate.is) c.emit_operation.ensures

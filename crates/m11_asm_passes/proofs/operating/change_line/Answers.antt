use Rattle.std.proofs.Common.{◌≡◌, ◌∙◌, ap, subst, sym}
use Rattle.m11_asm_lines.specs.Actions.{action_fields, action_model, after_action}
use Rattle.m11_asm_lines.specs.declared.actions.Action.{Action}
use Rattle.m11_asm_passes.proofs.operating.change_line.Goals as goal

pub step_over-requires : goal.step_over-requires
step_over-requires c =
    c.requires.fields ∙ ap (action_fields c.args.pass.now c.args.line.now.text) c.in-Operate.is

pub returns-in-Operate-clause-changes : goal.returns-in-Operate-clause-changes
returns-in-Operate-clause-changes c =
    let P : Action → Type 0 = λ action. c.step_over.new.self ≡ after_action c.args.map.now c.args.line.now.text
    (action_model c.args.line.now.text c.args.operation.now.arguments action) c.args.pass.now in
    subst P (sym c.in-Operate.is) (c.step_over.ensures c.args.map.now)

use Rattle.std.proofs.Common.{◌≡◌, ◌∙◌, sym, subst, ap}
use Rattle.m11_asm_lines.specs.Actions.{action_fields, action_model, after_action}
use Rattle.m11_asm_lines.specs.declared.actions.Action.{Action}
use Rattle.m11_asm_lines.proofs.pass.Pass.apply_action.Goals as goal

pub returns-in-SetCounter-clause-changes : goal.returns-in-SetCounter-clause-changes
returns-in-SetCounter-clause-changes c =
    let line = c.args.line.now.text in
    let P : Action → Type 0 = λ action. c.apply_counter.new.self
    ≡ after_action c.args.map.now line (action_model line c.args.operation.now.arguments action) c.args.self.now in
    subst P (sym c.in-SetCounter.is) (c.apply_counter.ensures c.args.map.now)

pub returns-in-Store-clause-changes : goal.returns-in-Store-clause-changes
returns-in-Store-clause-changes c =
    let line = c.args.line.now.text in
    let P : Action → Type 0 = λ action. c.step_past.new.self
    ≡ after_action c.args.map.now line (action_model line c.args.operation.now.arguments action) c.args.self.now in
    subst P (sym c.in-Store.is) (c.step_past.ensures c.args.map.now)

pub step_over-requires : goal.step_over-requires
step_over-requires c =
    c.requires.fields ∙ ap (action_fields c.args.self.now c.args.line.now.text) c.in-Operate.is

pub returns-in-Operate-clause-changes : goal.returns-in-Operate-clause-changes
returns-in-Operate-clause-changes c =
    let line = c.args.line.now.text in
    let P : Action → Type 0 = λ action. c.step_over.new.self
    ≡ after_action c.args.map.now line (action_model line c.args.operation.now.arguments action) c.args.self.now in
    subst P (sym c.in-Operate.is) (c.step_over.ensures c.args.map.now)

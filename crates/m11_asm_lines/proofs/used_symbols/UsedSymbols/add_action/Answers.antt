use Rattle.std.proofs.Common.{List, Option, subst, sym, ap, ◌∙◌}
use Rattle.m11_asm_directives.specs.Settings.{setting_model}
use Rattle.m11_asm_rules.specs.Fields.{Fields}
use Rattle.m11_asm_rules.specs.SymbolUses.{action_uses, uses_of_fields}
use Rattle.m11_asm_lines.specs.Actions.{action_fields, action_model}
use Rattle.m11_asm_lines.specs.UsedSymbols.{Adds}
use Rattle.m11_asm_lines.specs.declared.actions.Action.{Action}
use Rattle.m11_scan_statements.specs.declared.spans.Span.{Span}
use Rattle.m11_asm_lines.proofs.used_symbols.UsedSymbols.add_action.Goals as goal

pub returns-in-Set-clause-adds : goal.returns-in-Set-clause-adds
returns-in-Set-clause-adds c = λ table are.
    let line = c.args.line.now.text in
    let arguments = c.args.operation.now.arguments in
    let P : Action → Type 0 = λ action. Adds (action_uses table line (action_model line arguments action)) c.args.self.now c.add_setting.new.self
    c.add_setting.result in
    let N : List (Option Span) → Type 0 = λ l. Adds (action_uses table line (setting_model line l c.in-Set.setting)) c.args.self.now
    c.add_setting.new.self c.add_setting.result in
    subst P (sym c.in-Set.is) (subst N c.as_slice.ensures.value (c.add_setting.ensures.adds table))

pub returns-in-Store-clause-adds : goal.returns-in-Store-clause-adds
returns-in-Store-clause-adds c = λ table are.
    let line = c.args.line.now.text in
    let P : Action → Type 0 = λ action. Adds (action_uses table line (action_model line c.args.operation.now.arguments action)) c.args.self.now
    c.add_storage.new.self c.add_storage.result in
    subst P (sym c.in-Store.is) c.add_storage.ensures

pub returns-in-Operate-clause-adds : goal.returns-in-Operate-clause-adds
returns-in-Operate-clause-adds c = λ table are.
    let line = c.args.line.now.text in
    let P : Action → Type 0 = λ action. Adds (action_uses table line (action_model line c.args.operation.now.arguments action)) c.args.self.now
    c.add_fields.new.self c.add_fields.result in
    let F : Fields → Type 0 = λ fields. Adds (uses_of_fields fields) c.args.self.now c.add_fields.new.self c.add_fields.result in
    subst P (sym c.in-Operate.is)
    (subst F (are ∙ ap (action_fields table line) c.in-Operate.is) c.add_fields.ensures)

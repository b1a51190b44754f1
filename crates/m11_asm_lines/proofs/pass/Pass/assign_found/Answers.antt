use Rattle.std.proofs.Common.{◌∙◌, ap, subst}
use Rattle.m11_scan_expressions.specs.Expressions.{value}
use Rattle.m11_scan_expressions.specs.Quantities.{quantity}
use Rattle.m11_scan_expressions.specs.Tokens.{expression_of}
use Rattle.m11_asm_rules.specs.Items.{value_items}
use Rattle.m11_asm_rules.specs.Meanings.{known_at}
use Rattle.m11_asm_rules.specs.Tables.{Table, location}
use Rattle.m11_asm_rules.specs.declared.meanings.Context.TheVariants.{LocalOnly}
use Rattle.m11_asm_faults.specs.declared.fault.AsmFault.TheVariants.{NoMemory}
use Rattle.m11_asm_rules.specs.Assignments.{assigned}
use Rattle.m11_asm_lines.proofs.Assigning.{assigned_by, assigned_so}
use Rattle.m11_asm_lines.proofs.Refusals.{handed_on}
use Rattle.m11_asm_lines.proofs.Room.{assigned_lacks}
use Rattle.m11_asm_lines.specs.Actions.{after_action}
use Rattle.m11_asm_lines.specs.Faults.{Overfills}
use Rattle.m11_asm_rules.specs.Actions.{Assign}
use Rattle.m11_asm_lines.proofs.pass.Pass.assign_found.Goals as goal

pub returns-in_err-assigned-clause-refuses : goal.returns-in_err-assigned-clause-refuses
returns-in_err-assigned-clause-refuses c =
    let map = c.args.map.now in
    let table = c.args.self.now in
    let tokens = expression_of c.args.line.now.text c.args.place in
    let definition = assigned map table tokens in
    let same = assigned_by map table tokens c.args.name c.args.is_global in
    let O : Table → Type 0 = λ t. Overfills NoMemory t in
    handed_on (λ fault. Overfills fault (after_action map c.args.line.now.text (Assign c.args.name c.args.is_global tokens) table)) NoMemory
    c.from_residual.result
    (subst O same (assigned_lacks c.args.name c.args.is_global definition table (c.requires definition)
    c.counts_are_within_the_limits.ensures.sections))
    c.from_residual.ensures.1

pub returns-in_err-assign_if-clause-refuses : goal.returns-in_err-assign_if-clause-refuses
returns-in_err-assign_if-clause-refuses c =
    let same = assigned_so c.args.map.now c.self.inside.table c.args.self.now (expression_of c.args.line.now.text c.args.place) c.args.name
    c.args.is_global (quantity c.in_ok-assigned.assigned.value) c.in_ok-assigned.assigned.is_firm c.definition_of-definition.result c.self.view_is
    c.definition_of-definition.ensures c.in_ok-assigned.ensures.value c.in_ok-assigned.ensures.firm in
    let P : Table → Type 0 = λ t. Overfills c.in_err-assign_if.field-0.0 t in
    handed_on
    (λ fault. Overfills fault
    (after_action c.args.map.now c.args.line.now.text
    (Assign c.args.name c.args.is_global (expression_of c.args.line.now.text c.args.place)) c.args.self.now))
    c.in_err-assign_if.field-0.0 c.from_residual-in_err-assign_if.result (subst P same c.in_err-assign_if.ensures.refuses)
    c.from_residual-in_err-assign_if.ensures.1

pub returns-clause-changes : goal.returns-clause-changes
returns-clause-changes c =
    c.in_ok-assign_if.ensures.assigns
    ∙ assigned_so c.args.map.now c.self.inside.table c.args.self.now (expression_of c.args.line.now.text c.args.place) c.args.name
    c.args.is_global (quantity c.in_ok-assigned.assigned.value) c.in_ok-assigned.assigned.is_firm c.definition_of-definition.result c.self.view_is
    c.definition_of-definition.ensures c.in_ok-assigned.ensures.value c.in_ok-assigned.ensures.firm

pub returns-clause-shows : goal.returns-clause-shows
returns-clause-shows c =
    c.value_item.ensures
    ∙ ap value_items
    (c.in_ok-assigned.ensures.value
    ∙ ap (λ (t : Table). value (known_at c.args.map.now LocalOnly t (location t)) (expression_of c.args.line.now.text c.args.place))
    c.self.view_is)

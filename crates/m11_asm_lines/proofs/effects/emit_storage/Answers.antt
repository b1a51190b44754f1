use Rattle.std.proofs.Common.{◌≡◌, ◌∙◌, ℕ, Bool, IfOk, subst, ap}
use Rattle.m11_asm_directives.specs.Stored.{storage_model}
use Rattle.m11_asm_operands.proofs.Joining.{flagged_by}
use Rattle.m11_asm_operands.specs.LineContext.{Standpoint}
use Rattle.m11_asm_rules.specs.Alignment.{gap_flags, location_for}
use Rattle.m11_asm_rules.specs.Contents.{Emission}
use Rattle.m11_asm_rules.specs.Effects.{is_even, stored}
use Rattle.m11_asm_lines.proofs.effects.emit_storage.Goals as goal

pub returns : goal.returns
returns c =
    let line = c.args.line.now.text in
    let storage = storage_model line c.args.arguments.now c.args.storage in
    let even = is_even storage in
    let P : Emission → Type 0 = λ p. IfOk c.emit.result (λ x. c.emit.new.emission ≡ p) in
    subst P
    (flagged_by c.args.emission.now c.add_flags.new.self _ _ _ _ c.add_flags.ensures
    (c.gap_flags.ensures ∙ ap (λ (b : Bool). gap_flags b c.location.result) (c.is_even-is_even.ensures line c.args.arguments.now)
    ∙ ap (λ (n : ℕ). gap_flags even n) c.location.ensures)
    (ap (λ (s : Standpoint). stored s.map s.table s.location (storage_model s.line c.args.arguments.now c.args.storage))
    c.new-line_context.ensures
    ∙ ap (λ (n : ℕ). stored c.args.map.now c.args.table.now n storage)
    (c.location_for.ensures ∙ ap (λ (b : Bool). location_for b c.location-2.result) (c.is_even-is_even.ensures line c.args.arguments.now)
    ∙ ap (λ (n : ℕ). location_for even n) c.location-2.ensures)))
    c.emit.ensures

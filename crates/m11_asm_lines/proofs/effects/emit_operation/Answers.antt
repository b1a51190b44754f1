use Rattle.std.proofs.Common.{◌≡◌, ◌∙◌, ℕ, true, IfOk, subst, ap}
use Rattle.m11_asm_operands.proofs.Joining.{flagged_by}
use Rattle.m11_asm_operands.specs.LineContext.{Standpoint, line_context_of}
use Rattle.m11_asm_operands.specs.Reads.{fields_model}
use Rattle.m11_asm_rules.specs.Alignment.{gap_flags, location_for}
use Rattle.m11_asm_rules.specs.Contents.{Emission}
use Rattle.m11_asm_rules.specs.Fields.{Fields}
use Rattle.m11_asm_rules.specs.Instructions.{assembled, line_context}
use Rattle.m11_asm_rules.specs.Tables.{location}
use Rattle.m11_asm_lines.proofs.effects.emit_operation.Goals as goal

pub returns : goal.returns
returns c =
    let line = c.args.line.now.text in
    let P : Emission → Type 0 = λ p. IfOk c.emit_instruction.result (λ x. c.emit_instruction.new.emission ≡ p) in
    subst P
    (flagged_by c.args.emission.now c.add_flags.new.self _ _ _ _ c.add_flags.ensures
    (c.gap_flags.ensures ∙ ap (λ (n : ℕ). gap_flags true n) c.location.ensures)
    (ap (λ (s : Standpoint). assembled (line_context_of s) s.line c.args.start c.args.operation (fields_model s.line c.args.fields.now))
    c.new-line_context.ensures
    ∙ ap (λ (n : ℕ). assembled (line_context c.args.map.now c.args.table.now n) line c.args.start c.args.operation
    (fields_model line c.args.fields.now)) (c.location_for.ensures ∙ ap (location_for true) c.location-2.ensures)
    ∙ ap (λ (f : Fields). assembled (line_context c.args.map.now c.args.table.now (location_for true (location c.args.table.now))) line
    c.args.start c.args.operation f) c.requires.fields))
    c.emit_instruction.ensures

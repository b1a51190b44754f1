use Rattle.m11_asm_operands.specs.Reads.{field_model, fields_model}
use Rattle.std.proofs.Common.{◌≡◌, ℕ, ap, ◌∙◌, subst, IfOk}
use Rattle.m11_asm_operands.specs.LineContext.{line_context_of}
use Rattle.m11_asm_rules.specs.Codes.{code, words_from}
use Rattle.m11_asm_rules.specs.Contents.{Emission, followed_by, further}
use Rattle.m11_asm_rules.specs.Fields.{forms_of}
use Rattle.m11_asm_operands.proofs.Joining.{flagged_parts}
use Rattle.m11_asm_operands.proofs.instructions.emit_instruction.Goals as goal

pub returns : goal.returns
returns c =
    let here = line_context_of c.args.line_context.now in
    let P : Emission → Type 0 = λ p. IfOk c.emit_words_after.result (λ x. c.emit_words_after.new.emission ≡ p) in
    subst P
    (ap (λ (n : ℕ). followed_by c.emit_code.new.emission (words_from here n (forms_of (fields_model c.args.line_context.now.line c.args.fields.now))))
    (c.further.ensures ∙ ap (λ (n : ℕ). further n 2) c.location.ensures)
    ∙ flagged_parts c.args.emission.now c.add_flags.new.self c.emit_code.new.emission (code here c.args.operation (field_model c.args.line_context.now.line c.args.fields.now.first)
    (field_model c.args.line_context.now.line c.args.fields.now.second))
    (words_from here (further here.location 2) (forms_of (fields_model c.args.line_context.now.line c.args.fields.now))) _ _ c.add_flags.ensures
    c.line_flags.ensures c.in_ok-emit_code.ensures)
    c.emit_words_after.ensures

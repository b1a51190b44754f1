use Rattle.std.proofs.Common.{ℕ, ◌*◌, ap, ◌∙◌}
use Rattle.m11_asm_operands.proofs.Sizes.{words_seen}
use Rattle.m11_asm_operands.specs.Reads.{field_model, form_model}
use Rattle.m11_asm_operands.proofs.FieldWords.{formed_on}
use Rattle.m11_asm_operands.specs.LineContext.{line_context_of}
use Rattle.m11_asm_operands.proofs.instructions.emit_field.Goals as goal

pub returns-in_ok-emit_form-in-Operand : goal.returns-in_ok-emit_form-in-Operand
returns-in_ok-emit_form-in-Operand c =
    formed_on (line_context_of c.args.line_context.now) c.args.emission.now c.emit_form.new.emission c.args.location c.further.result c.size_of.result
    (field_model c.args.line_context.now.line c.args.field.now) (form_model c.args.line_context.now.line c.in-Operand.form)
    (ap (field_model c.args.line_context.now.line) c.in-Operand.is) c.in_ok-emit_form-in-Operand.ensures c.further.ensures
    (c.size_of.ensures.size ∙ ap (λ (n : ℕ). n * 2) (words_seen c.args.line_context.now.line c.in-Operand.form))

use Rattle.std.proofs.Common.{◌∙◌, [], sym}
use Rattle.m11_asm_operands.specs.Reads.{field_model}
use Rattle.m11_asm_rules.specs.Fields.{with_form}
use Rattle.m11_asm_operands.proofs.Joining.{followed_nothing}
use Rattle.m11_asm_operands.proofs.instructions.emit_words_after.Goals as goal

pub returns : goal.returns
returns c =
    sym (followed_nothing c.emit_field-2.new.emission)
    ∙ c.in_ok-emit_field.ensures []
    ∙ c.in_ok-next.ensures (with_form (field_model c.args.line_context.now.line c.args.fields.now.second) [])

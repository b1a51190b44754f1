use Rattle.std.proofs.Common.{◌∙◌, Bool, map, sym, ap}
use Rattle.m11_asm_operands.proofs.Joining.{followed_nothing}
use Rattle.m11_asm_rules.specs.Contents.{emission, fixed_byte, followed_by}
use Rattle.m11_asm_rules.specs.Strings.{last_byte}
use Rattle.m11_asm_directives.proofs.texts.emit_last.Goals as goal

pub returns-else-is_ended : goal.returns-else-is_ended
returns-else-is_ended c =
    let old = c.args.emission.now in
    sym (followed_nothing old)
    ∙ ap (λ (b : Bool). followed_by old (emission (map fixed_byte (last_byte b)) 0)) (sym c.if-is_ended.false)

use Rattle.std.proofs.Common.{◌≡◌, ◌∙◌, ℕ, IfOk, map, subst, ap}
use Rattle.m11_asm_operands.proofs.Joining.{followed_joins}
use Rattle.m11_asm_rules.specs.Contents.{Emission, emission, fixed_byte, followed_by}
use Rattle.m11_asm_rules.specs.Strings.{contents_of, last_byte, parts_bytes}
use Rattle.m11_asm_directives.proofs.texts.emit_text.Goals as goal

pub returns : goal.returns
returns c =
    let here = c.args.line_context.now in
    let last = emission (map fixed_byte (last_byte c.args.is_ended)) 0 in
    let P : Emission → Type 0 = λ p. IfOk c.emit_last.result (λ x. c.emit_last.new.emission ≡ p) in
    subst P
    (ap (λ (p : Emission). followed_by p last)
    (c.in_ok-emit_parts.ensures
    ∙ ap (λ (n : ℕ). followed_by c.args.emission.now (parts_bytes here.map here.table n (contents_of here.line c.args.parts.now)))
    c.location.ensures)
    ∙ followed_joins c.args.emission.now (parts_bytes here.map here.table here.location (contents_of here.line c.args.parts.now)) last)
    c.emit_last.ensures

use Rattle.std.proofs.Common.{List, sym, ap, ◌∙◌}
use Rattle.std.proofs.lemmas.List.{drop_all}
use Rattle.m11_asm_operands.proofs.Joining.{followed_nothing}
use Rattle.m11_asm_rules.specs.Contents.{followed_by}
use Rattle.m11_asm_rules.specs.Strings.{contents_of, parts_bytes}
use Rattle.m11_scan_statements.specs.declared.parts.Part.{Part}
use Rattle.m11_asm_directives.proofs.texts.emit_parts.Goals as goal

pub returns : goal.returns
returns c =
    let here = c.args.line_context.now in
    sym (followed_nothing c.parts.emission)
    ∙ ap (λ (r : List Part). followed_by c.parts.emission (parts_bytes here.map here.table c.parts.location (contents_of here.line r)))
    (sym (drop_all c.parts.part-index c.args.parts.now c.parts-test.false))
    ∙ c.parts.invariant

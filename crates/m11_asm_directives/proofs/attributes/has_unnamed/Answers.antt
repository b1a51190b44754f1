use Rattle.std.proofs.Common.{◌∙◌, is_none, sym, refl}
use Rattle.m11_obj.specs.Attributes.{attribute_named}
use Rattle.m11_asm_rules.specs.Elements.{texts_of}
use Rattle.m11_asm_directives.proofs.Listed.{found_first, later_first, texts_first}
use Rattle.m11_asm_directives.proofs.attributes.has_unnamed.Goals as goal

pub returns-then-is_unnamed : goal.returns-then-is_unnamed
returns-then-is_unnamed c =
    let line = c.args.line.now.text in
    found_first (λ name. is_none (attribute_named name)) (texts_of line) (texts_first line) c.names.rest.now _ _
    c.in-len1-up.len_at_least refl (sym c.is_unnamed.ensures ∙ c.if-is_unnamed.true)
    ∙ c.names.invariant

pub names-preserved : goal.names-preserved
names-preserved c =
    let line = c.args.line.now.text in
    later_first (λ name. is_none (attribute_named name)) (texts_of line) (texts_first line) c.names.rest.now _ _
    c.in-len1-up.len_at_least refl (sym c.is_unnamed.ensures ∙ c.if-is_unnamed.false)
    ∙ c.names.invariant

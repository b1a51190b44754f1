use Rattle.std.proofs.Common.{◌∙◌, not, sym, refl}
use Rattle.m11_obj.specs.Attributes.{attribute_named, has_attribute}
use Rattle.m11_asm_directives.proofs.Listed.{later_first, read_first, read_of}
use Rattle.m11_asm_directives.proofs.attributes.has_differing.Goals as goal

pub names-preserved : goal.names-preserved
names-preserved c =
    let line = c.args.line.now.text in
    later_first (λ attribute. not (has_attribute c.args.known.now.attributes attribute)) (read_of attribute_named line)
    (read_first attribute_named line) c.names.rest.now _ _ c.in-len1-up.len_at_least refl
    (sym c.differs.ensures ∙ c.if-differs.false)
    ∙ c.names.invariant

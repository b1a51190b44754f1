use Rattle.std.proofs.Common.{◌∙◌, refl}
use Rattle.m11_obj.specs.Attributes.{attribute_named, bits_of}
use Rattle.m11_asm_directives.proofs.Listed.{put_first}
use Rattle.m11_asm_directives.proofs.attributes.with_attributes.Goals as goal

pub names-preserved : goal.names-preserved
names-preserved c =
    put_first attribute_named c.args.line.now.text c.names.rest.now _ _ (bits_of c.names.after)
    (bits_of c.with_named-after.result) c.in-len1-up.len_at_least refl c.with_named-after.ensures
    ∙ c.names.invariant

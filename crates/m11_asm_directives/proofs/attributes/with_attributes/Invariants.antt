use Rattle.std.proofs.Common.{◌≡◌, length}
use Rattle.m11_obj.specs.Attributes.{bits_of}
use Rattle.m11_asm_rules.specs.Elements.{texts_of}
use Rattle.m11_asm_rules.specs.Psects.{attributes_named, with_attributes}
use Rattle.m11_asm_directives.proofs.attributes.with_attributes.Given as goal

abbrev pub invariant-names : goal.invariant-names
invariant-names l =
    with_attributes (bits_of l.after) (attributes_named (texts_of l.line.text l.rest))
    ≡ with_attributes (bits_of l.fn.flags) (attributes_named (texts_of l.line.text l.names))

abbrev pub decreases-names : goal.decreases-names
decreases-names l = length l.rest

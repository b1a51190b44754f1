use Rattle.std.proofs.Common.{◌≡◌, length, not}
use Rattle.std.specs.List.{list_any}
use Rattle.m11_obj.specs.Attributes.{has_attribute}
use Rattle.m11_asm_rules.specs.Elements.{texts_of}
use Rattle.m11_asm_rules.specs.Psects.{attributes_named}
use Rattle.m11_asm_directives.proofs.attributes.has_differing.Given as goal

abbrev pub invariant-names : goal.invariant-names
invariant-names l =
    list_any (λ attribute. not (has_attribute l.known.attributes attribute)) (attributes_named (texts_of l.line.text l.rest))
    ≡ list_any (λ attribute. not (has_attribute l.known.attributes attribute)) (attributes_named (texts_of l.line.text l.names))

abbrev pub decreases-names : goal.decreases-names
decreases-names l = length l.rest

use Rattle.std.proofs.Common.{◌≡◌, is_none, length}
use Rattle.std.specs.List.{list_any}
use Rattle.m11_obj.specs.Attributes.{attribute_named}
use Rattle.m11_asm_rules.specs.Elements.{texts_of}
use Rattle.m11_asm_directives.proofs.attributes.has_unnamed.Given as goal

abbrev pub invariant-names : goal.invariant-names
invariant-names l =
    list_any (λ name. is_none (attribute_named name)) (texts_of l.line.text l.rest)
    ≡ list_any (λ name. is_none (attribute_named name)) (texts_of l.line.text l.names)

abbrev pub decreases-names : goal.decreases-names
decreases-names l = length l.rest

use Rattle.std.proofs.Common.{◌≡◌, length, not}
use Rattle.std.specs.List.{list_any}
use Rattle.m11_asm_rules.specs.Control.{is_among}
use Rattle.m11_asm_rules.specs.Elements.{texts_of}
use Rattle.m11_asm_directives.proofs.list_control.has_unknown.Given as goal

abbrev pub invariant-names : goal.invariant-names
invariant-names l =
    list_any (λ word. not (is_among l.known word)) (texts_of l.line.text l.rest)
    ≡ list_any (λ word. not (is_among l.known word)) (texts_of l.line.text l.names)

abbrev pub decreases-names : goal.decreases-names
decreases-names l = length l.rest

use Rattle.std.proofs.Common.{◌≡◌, length}
use Rattle.m11_asm_rules.specs.Control.{is_among}
use Rattle.m11_asm_rules.specs.Elements.{texts_of}
use Rattle.m11_asm_directives.proofs.list_control.has_word.Given as goal

abbrev pub invariant-names : goal.invariant-names
invariant-names l = is_among (texts_of l.line.text l.rest) l.word ≡ is_among (texts_of l.line.text l.names) l.word

abbrev pub decreases-names : goal.decreases-names
decreases-names l = length l.rest

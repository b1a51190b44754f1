use Rattle.std.proofs.Common.{◌≡◌, length}
use Rattle.m11_asm_rules.specs.Elements.{names_of, texts_of}
use Rattle.m11_asm.specs.Facts.{each_once}
use Rattle.m11_asm.proofs.facts.insert_all.Given as goal

abbrev pub invariant-names : goal.invariant-names
invariant-names l =
    each_once l.names.keys (names_of (texts_of l.line.text l.rest)) ≡ each_once l.initial.names.keys (names_of (texts_of l.line.text l.list))

abbrev pub decreases-names : goal.decreases-names
decreases-names l = length l.rest

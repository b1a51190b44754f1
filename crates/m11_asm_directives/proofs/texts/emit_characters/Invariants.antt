use Rattle.std.proofs.Common.{◌≡◌, drop, map}
use Rattle.m11_asm_rules.specs.Contents.{fixed_byte, followed_by, emission}
use Rattle.m11_asm_directives.proofs.texts.emit_characters.Given as goal

abbrev pub invariant-characters : goal.invariant-characters
invariant-characters l =
    followed_by l.emission (emission (map fixed_byte (drop l.character-index l.text)) 0)
    ≡ followed_by l.initial.emission (emission (map fixed_byte l.text) 0)

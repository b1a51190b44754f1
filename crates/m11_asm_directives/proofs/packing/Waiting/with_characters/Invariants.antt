use Rattle.std.proofs.Common.{◌≡◌, drop, map}
use Rattle.m11_asm_directives.specs.Packing.{codes_first, packing}
use Rattle.m11_asm_rules.specs.Strings as spec
use Rattle.m11_asm_directives.proofs.packing.Waiting.with_characters.Given as goal

abbrev pub invariant-characters : goal.invariant-characters
invariant-characters l =
    (more : spec.Codes)
    → packing l.emission l.waiting (codes_first (map spec.character_code (drop l.character-index l.text)) more)
    ≡ packing l.initial.emission l.fn.self (codes_first (map spec.character_code l.text) more)

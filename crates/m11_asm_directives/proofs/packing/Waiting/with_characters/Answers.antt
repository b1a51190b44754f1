use Rattle.std.proofs.Common.{ℕ, List, ◌∷◌, ◌+◌, drop, map, sym, ap, ◌∙◌}
use Rattle.std.proofs.lemmas.List.{at_drop_more}
use Rattle.m11_asm_rules.specs.Strings.{character_code}
use Rattle.m11_asm_directives.specs.Packing.{codes_first, packing}
use Rattle.m11_asm_directives.proofs.packing.Waiting.with_characters.Goals as goal

pub characters-preserved : goal.characters-preserved
characters-preserved c = λ more.
    let others = map character_code (drop (c.characters.character-index + 1) c.args.text.now) in
    c.in_ok-waiting.ensures (codes_first others more)
    ∙ ap (λ (k : ℕ). packing c.characters.emission c.characters.waiting (codes_first (k ∷ others) more)) c.character_code.ensures
    ∙ sym (at_drop_more
    (λ (t : List ℕ). packing c.characters.emission c.characters.waiting (codes_first (map character_code t) more))
    c.args.text.now c.characters.character-index 0 c.characters-test.true)
    ∙ c.characters.invariant more

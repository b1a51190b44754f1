use Rattle.std.proofs.Common.{List, ℕ, ◌+◌, drop, map, sym, ap, ◌∙◌}
use Rattle.std.proofs.lemmas.List.{at_drop_more, drop_all}
use Rattle.m11_asm_operands.proofs.Joining.{followed_nothing}
use Rattle.m11_asm_rules.specs.Contents.{fixed_byte, followed_by, emission}
use Rattle.m11_asm_directives.proofs.TextSteps.{character_on}
use Rattle.m11_asm_directives.proofs.texts.emit_characters.Goals as goal

pub characters-preserved : goal.characters-preserved
characters-preserved c =
    character_on c.characters.emission c.add_fixed_byte.new.self _ c.from.result
    (drop (c.characters.character-index + 1) c.args.text.now) c.from.ensures c.in_ok-add_fixed_byte.ensures
    ∙ sym (at_drop_more (λ (t : List ℕ). followed_by c.characters.emission (emission (map fixed_byte t) 0)) c.args.text.now
    c.characters.character-index 0 c.characters-test.true)
    ∙ c.characters.invariant

pub returns : goal.returns
returns c =
    sym (followed_nothing c.characters.emission)
    ∙ ap (λ (t : List ℕ). followed_by c.characters.emission (emission (map fixed_byte t) 0))
    (sym (drop_all c.characters.character-index c.args.text.now c.characters-test.false))
    ∙ c.characters.invariant

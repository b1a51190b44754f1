use Rattle.std.proofs.Common.{ℕ, List, ◌∙◌, ap}
use Rattle.m11_asm_listing.specs.Messages.{message_line}
use Rattle.m11_asm_outputs.proofs.Looping.{line_as}
use Rattle.m11_asm_outputs.proofs.messages.put_flagged.Goals as goal

pub returns-clause-writes : goal.returns-clause-writes
returns-clause-writes g c = λ object listing. line_as _ _ _ _ _
    (c.as_slice-2.ensures.value ∙ c.message_line-line.ensures
    ∙ ap (λ (t : List ℕ). message_line t c.args.number c.args.text.now) (c.as_slice.ensures.value ∙ c.text.ensures))
    (c.put_message.ensures.writes object listing)

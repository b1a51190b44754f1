use Rattle.m11_asm_rules.proofs.Forms.{one_word}
use Rattle.m11_asm_rules.proofs.laws.an_operand_has_at_most_one_word.Goals as goal

pub returns : goal.returns
returns c = one_word

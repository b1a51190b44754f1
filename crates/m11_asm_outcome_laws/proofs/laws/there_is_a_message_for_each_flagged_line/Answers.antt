use Rattle.m11_asm_outcome_laws.proofs.MessagesCounted.{as_many_messages}
use Rattle.m11_asm_outcome_laws.proofs.laws.there_is_a_message_for_each_flagged_line.Goals as goal

pub returns : goal.returns
returns c = as_many_messages

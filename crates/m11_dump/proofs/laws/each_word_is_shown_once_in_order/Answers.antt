use Rattle.m11_dump.proofs.EachWord.{byte_after, word_between, word_spelled}
use Rattle.m11_dump.proofs.laws.each_word_is_shown_once_in_order.Goals as goal

pub returns-clause-order : goal.returns-clause-order
returns-clause-order c = word_between

pub returns-clause-last : goal.returns-clause-last
returns-clause-last c = byte_after

pub returns-clause-spelled : goal.returns-clause-spelled
returns-clause-spelled c = word_spelled

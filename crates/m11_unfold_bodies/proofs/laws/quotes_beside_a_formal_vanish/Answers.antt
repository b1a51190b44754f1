use Rattle.m11_unfold_bodies.proofs.Words.{after_quote, alone, before_quote, between_quotes, one_quote, three_quotes, two_quotes}
use Rattle.m11_unfold_bodies.proofs.laws.quotes_beside_a_formal_vanish.Goals as goal

pub returns-clause-alone : goal.returns-clause-alone
returns-clause-alone c = alone

pub returns-clause-after_quote : goal.returns-clause-after_quote
returns-clause-after_quote c = after_quote

pub returns-clause-before_quote : goal.returns-clause-before_quote
returns-clause-before_quote c = before_quote

pub returns-clause-between_quotes : goal.returns-clause-between_quotes
returns-clause-between_quotes c = between_quotes

pub returns-clause-one_quote : goal.returns-clause-one_quote
returns-clause-one_quote c = one_quote

pub returns-clause-two_quotes : goal.returns-clause-two_quotes
returns-clause-two_quotes c = two_quotes

pub returns-clause-three_quotes : goal.returns-clause-three_quotes
returns-clause-three_quotes c = three_quotes

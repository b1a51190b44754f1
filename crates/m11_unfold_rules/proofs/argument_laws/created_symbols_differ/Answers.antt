use Rattle.m11_unfold_rules.proofs.Created.{all_differ, one_after_another, same_number}
use Rattle.m11_unfold_rules.proofs.argument_laws.created_symbols_differ.Goals as goal

pub returns-clause-numbers : goal.returns-clause-numbers
returns-clause-numbers c = one_after_another

pub returns-clause-texts : goal.returns-clause-texts
returns-clause-texts c = same_number

pub returns-clause-differ : goal.returns-clause-differ
returns-clause-differ c = all_differ

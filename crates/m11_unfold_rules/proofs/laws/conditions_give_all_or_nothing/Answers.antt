use Rattle.m11_unfold_rules.proofs.OpenConditions.{condition_fails, condition_holds}
use Rattle.m11_unfold_rules.proofs.laws.conditions_give_all_or_nothing.Goals as goal

pub returns-clause-holds : goal.returns-clause-holds
returns-clause-holds c = condition_holds

pub returns-clause-fails : goal.returns-clause-fails
returns-clause-fails c = condition_fails

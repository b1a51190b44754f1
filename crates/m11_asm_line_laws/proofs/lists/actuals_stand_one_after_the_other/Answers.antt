use Rattle.m11_asm_line_laws.proofs.Listed.{actuals_over, all_actuals, first_actuals}
use Rattle.m11_asm_line_laws.proofs.lists.actuals_stand_one_after_the_other.Goals as goal

pub returns-clause-all : goal.returns-clause-all
returns-clause-all c = all_actuals

pub returns-clause-first : goal.returns-clause-first
returns-clause-first c = first_actuals

pub returns-clause-end : goal.returns-clause-end
returns-clause-end c = actuals_over

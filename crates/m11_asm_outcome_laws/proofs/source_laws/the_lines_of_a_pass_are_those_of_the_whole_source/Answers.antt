use Rattle.m11_asm_outcome_laws.proofs.Numbers.{have_numbers}
use Rattle.m11_asm_outcome_laws.proofs.WholeSources.{all_lines, keeps, so_far}
use Rattle.m11_asm_outcome_laws.proofs.source_laws.the_lines_of_a_pass_are_those_of_the_whole_source.Goals as goal

pub returns-clause-so_far : goal.returns-clause-so_far
returns-clause-so_far c = so_far

pub returns-clause-limits : goal.returns-clause-limits
returns-clause-limits c = keeps

pub returns-clause-all : goal.returns-clause-all
returns-clause-all c = all_lines

pub returns-clause-numbers : goal.returns-clause-numbers
returns-clause-numbers c = have_numbers c.a_source_has_one_unfolding.ensures.compared

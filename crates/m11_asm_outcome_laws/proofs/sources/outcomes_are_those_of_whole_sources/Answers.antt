use Rattle.m11_asm_outcome_laws.proofs.OneRewriting.{are_theirs}
use Rattle.m11_asm_outcome_laws.proofs.WholeOutcomes.{of_whole}
use Rattle.m11_asm_outcome_laws.proofs.sources.outcomes_are_those_of_whole_sources.Goals as goal

pub returns-clause-are : goal.returns-clause-are
returns-clause-are c =
    let law = c.the_lines_of_a_pass_are_those_of_the_whole_source.ensures in
    of_whole law.limits law.all law.numbers c.a_reading_is_refused_by_the_first_limit_of_the_whole_source.ensures

pub returns-clause-just_these : goal.returns-clause-just_these
returns-clause-just_these c =
    let law = c.the_lines_of_a_pass_are_those_of_the_whole_source.ensures in
    let one = c.a_source_has_one_unfolding.ensures in
    are_theirs one.compared one.ended
    (of_whole law.limits law.all law.numbers c.a_reading_is_refused_by_the_first_limit_of_the_whole_source.ensures)
    c.each_list_of_sources_has_an_outcome.ensures

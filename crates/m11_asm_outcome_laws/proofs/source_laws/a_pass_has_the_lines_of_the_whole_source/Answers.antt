use Rattle.m11_asm_outcome_laws.proofs.WholeEnds.{ends_with, just_these}
use Rattle.m11_asm_outcome_laws.proofs.source_laws.a_pass_has_the_lines_of_the_whole_source.Goals as goal

pub returns-clause-ends : goal.returns-clause-ends
returns-clause-ends c =
    let law = c.a_source_has_one_unfolding.ensures in
    ends_with law.compared law.ended

pub returns-clause-just_these : goal.returns-clause-just_these
returns-clause-just_these c =
    let law = c.a_source_has_one_unfolding.ensures in
    just_these law.compared law.ended

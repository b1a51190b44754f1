use Rattle.m11_asm_outcome_laws.proofs.FirstFaults.{refused_after}
use Rattle.m11_asm_outcome_laws.proofs.source_laws.a_reading_is_refused_by_the_first_limit_of_the_whole_source.Goals as goal

pub returns : goal.returns
returns c = refused_after c.a_source_has_one_unfolding.ensures.compared

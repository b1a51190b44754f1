use Rattle.m11_asm_outcome_laws.proofs.EachPass.{has_outcome}
use Rattle.m11_asm_outcome_laws.proofs.laws.each_list_of_sources_has_an_outcome.Goals as goal

pub returns : goal.returns
returns c = has_outcome c.each_pass_reaches_its_end_or_passes_a_limit.ensures

use Rattle.m11_asm_outcome_laws.proofs.OutputsAlike.{left_alike}
use Rattle.m11_asm_outcome_laws.proofs.laws.a_listing_changes_no_other_output.Goals as goal

pub returns : goal.returns
returns c = left_alike c.sources_have_one_outcome.ensures

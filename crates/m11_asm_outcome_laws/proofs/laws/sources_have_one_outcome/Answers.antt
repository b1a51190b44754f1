use Rattle.m11_asm_outcome_laws.proofs.OneOutcome.{one_outcome}
use Rattle.m11_asm_outcome_laws.proofs.laws.sources_have_one_outcome.Goals as goal

pub returns : goal.returns
returns c =
    let law = c.a_pass_has_one_end.ensures in
    one_outcome law.ends law.exceeds law.either

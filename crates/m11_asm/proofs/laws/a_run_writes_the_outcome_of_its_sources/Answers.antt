use Rattle.m11_asm.proofs.Joined.{has_outcome}
use Rattle.m11_asm.proofs.laws.a_run_writes_the_outcome_of_its_sources.Goals as goal

pub returns : goal.returns
returns g c = has_outcome

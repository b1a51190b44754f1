use Rattle.m11_asm_outcome_laws.proofs.RunsRefused.{refused_so}
use Rattle.m11_asm_outcome_laws.proofs.laws.runs_write_their_outcome.Goals as goal

pub returns : goal.returns
returns g c = refused_so

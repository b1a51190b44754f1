use Rattle.m11_asm_rules.proofs.Equations.{solves}
use Rattle.m11_asm_rules.proofs.laws.the_map_of_a_source_solves_it.Goals as goal

pub returns : goal.returns
returns c = solves

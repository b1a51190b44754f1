use Rattle.m11_asm_rules.proofs.Equations.{only_solution}
use Rattle.m11_asm_rules.proofs.laws.solutions_are_alike.Goals as goal

pub returns : goal.returns
returns c = only_solution

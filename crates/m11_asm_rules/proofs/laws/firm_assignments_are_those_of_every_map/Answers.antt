use Rattle.m11_asm_rules.proofs.FirmAssignments.{part_alike}
use Rattle.m11_asm_rules.proofs.laws.firm_assignments_are_those_of_every_map.Goals as goal

pub returns : goal.returns
returns c = part_alike

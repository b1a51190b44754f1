use Rattle.m11_asm_rules.proofs.FirmLines.{tables_alike}
use Rattle.m11_asm_rules.proofs.laws.placements_are_the_same_under_every_map.Goals as goal

pub returns : goal.returns
returns c = tables_alike

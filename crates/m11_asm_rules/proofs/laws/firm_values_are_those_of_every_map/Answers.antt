use Rattle.m11_asm_rules.proofs.NamesByMaps.{value_alike}
use Rattle.m11_asm_rules.proofs.laws.firm_values_are_those_of_every_map.Goals as goal

pub returns : goal.returns
returns c = value_alike

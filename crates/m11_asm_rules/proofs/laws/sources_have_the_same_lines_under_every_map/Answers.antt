use Rattle.m11_asm_rules.proofs.SameLines.{lines_are_same}
use Rattle.m11_asm_rules.proofs.laws.sources_have_the_same_lines_under_every_map.Goals as goal

pub returns : goal.returns
returns c = lines_are_same

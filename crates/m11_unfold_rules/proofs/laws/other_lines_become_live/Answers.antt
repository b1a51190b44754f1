use Rattle.m11_unfold_rules.proofs.OtherLines.{lines_live}
use Rattle.m11_unfold_rules.proofs.laws.other_lines_become_live.Goals as goal

pub returns : goal.returns
returns c = lines_live

use Rattle.m11_unfold_rules.proofs.MoreLines.{leads_on}
use Rattle.m11_unfold_rules.proofs.laws.further_lines_change_nothing_before_them.Goals as goal

pub returns : goal.returns
returns c = leads_on

use Rattle.m11_scan.proofs.Cuts.{cut_joined}
use Rattle.m11_scan.proofs.line_laws.lines_of_parts_are_those_of_the_whole.Goals as goal

pub returns : goal.returns
returns c = cut_joined

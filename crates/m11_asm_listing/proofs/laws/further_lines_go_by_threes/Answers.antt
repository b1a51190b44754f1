use Rattle.m11_asm_listing.proofs.PrintedLines.{by_threes}
use Rattle.m11_asm_listing.proofs.laws.further_lines_go_by_threes.Goals as goal

pub returns : goal.returns
returns c = by_threes

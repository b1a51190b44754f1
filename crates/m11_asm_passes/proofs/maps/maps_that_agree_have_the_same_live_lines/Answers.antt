use Rattle.m11_asm_passes.proofs.LiveLines.{exceeds_same, pass_lines_same}
use Rattle.m11_asm_passes.proofs.maps.maps_that_agree_have_the_same_live_lines.Goals as goal

pub returns-clause-lines : goal.returns-clause-lines
returns-clause-lines c = pass_lines_same

pub returns-clause-limits : goal.returns-clause-limits
returns-clause-limits c = exceeds_same

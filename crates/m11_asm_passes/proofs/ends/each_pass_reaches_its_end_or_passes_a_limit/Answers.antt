use Rattle.m11_asm_passes.proofs.EachEnds.{has_end}
use Rattle.m11_asm_passes.proofs.ends.each_pass_reaches_its_end_or_passes_a_limit.Goals as goal

pub returns : goal.returns
returns c = has_end

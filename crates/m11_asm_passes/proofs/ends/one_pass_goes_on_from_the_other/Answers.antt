use Rattle.m11_asm_passes.proofs.Growing.{goes_on}
use Rattle.m11_asm_passes.proofs.ends.one_pass_goes_on_from_the_other.Goals as goal

pub returns : goal.returns
returns c = goes_on

use Rattle.m11_asm_outputs.proofs.Closing.{nothing_open}
use Rattle.m11_asm_outputs.proofs.object.open_text.Goals as goal

pub returns : goal.returns
returns c = nothing_open c.new.result c.new.ensures

use Rattle.m11_asm_outputs.proofs.Closing.{in_parts}
use Rattle.m11_asm_outputs.proofs.laws.the_parts_are_the_object.Goals as goal

pub returns : goal.returns
returns c = λ rows pieces. in_parts rows pieces

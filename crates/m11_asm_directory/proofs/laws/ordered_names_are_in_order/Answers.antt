use Rattle.m11_asm_directory.proofs.InOrder.{ordered_in_order}
use Rattle.m11_asm_directory.proofs.laws.ordered_names_are_in_order.Goals as goal

pub returns : goal.returns
returns c = ordered_in_order

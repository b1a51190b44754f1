use Rattle.m11_asm.proofs.EntryNames.{names_in_order}
use Rattle.m11_asm.proofs.symbol_laws.each_name_stands_once_and_in_order.Goals as goal

pub returns : goal.returns
returns c = names_in_order c.ordered_names_are_in_order.ensures

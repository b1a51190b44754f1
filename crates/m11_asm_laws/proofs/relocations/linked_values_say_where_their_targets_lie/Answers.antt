use Rattle.m11_asm_laws.proofs.ValuesLie.{values_lie}
use Rattle.m11_asm_laws.proofs.relocations.linked_values_say_where_their_targets_lie.Goals as goal

pub returns : goal.returns
returns c = values_lie

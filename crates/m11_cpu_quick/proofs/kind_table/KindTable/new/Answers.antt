use Rattle.m11_cpu_quick.proofs.KindsFound.{none_found}
use Rattle.m11_cpu_quick.proofs.kind_table.KindTable.new.Goals as goal

pub invariant_of-result : goal.invariant_of-result
invariant_of-result c = none_found

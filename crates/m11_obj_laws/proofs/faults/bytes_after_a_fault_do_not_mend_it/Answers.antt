use Rattle.m11_obj_laws.proofs.NotMended.{not_mended}
use Rattle.m11_obj_laws.proofs.faults.bytes_after_a_fault_do_not_mend_it.Goals as goal

pub returns : goal.returns
returns c = not_mended

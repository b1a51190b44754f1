use Rattle.m11_asm_line_laws.proofs.Listed.{written_formals}
use Rattle.m11_asm_line_laws.proofs.lists.formals_stand_one_after_the_other.Goals as goal

pub returns : goal.returns
returns c = written_formals

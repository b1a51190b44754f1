use Rattle.m11_asm_line_laws.proofs.NamesListed.{written_names}
use Rattle.m11_asm_line_laws.proofs.lists.names_stand_one_after_the_other.Goals as goal

pub returns : goal.returns
returns c = written_names

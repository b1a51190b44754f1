use Rattle.m11_asm_rules.proofs.History.{says}
use Rattle.m11_asm_rules.proofs.laws.the_table_says_what_the_lines_said.Goals as goal

pub returns : goal.returns
returns c = says

use Rattle.m11_asm_rules.proofs.LinesFill.{lines_fill}
use Rattle.m11_asm_rules.proofs.laws.a_line_fills_what_it_steps_by.Goals as goal

pub returns : goal.returns
returns c = lines_fill

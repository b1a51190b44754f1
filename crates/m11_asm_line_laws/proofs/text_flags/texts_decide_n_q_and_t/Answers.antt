use Rattle.m11_asm_line_laws.proofs.TextFlags.{same_text_flags}
use Rattle.m11_asm_line_laws.proofs.text_flags.texts_decide_n_q_and_t.Goals as goal

pub returns : goal.returns
returns c = same_text_flags

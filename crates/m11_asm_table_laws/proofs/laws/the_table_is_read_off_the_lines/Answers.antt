use Rattle.m11_asm_table_laws.proofs.LinesRecorded.{recorded}
use Rattle.m11_asm_table_laws.proofs.laws.the_table_is_read_off_the_lines.Goals as goal

pub returns : goal.returns
returns c = recorded

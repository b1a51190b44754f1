use Rattle.m11_asm_table_laws.proofs.LinesRecorded.{definitions_read, moves_read}
use Rattle.m11_asm_table_laws.proofs.laws.definitions_and_moves_are_read_off_the_lines.Goals as goal

pub returns : goal.returns
returns c = record { definitions = definitions_read; moves = moves_read }

use Rattle.m11_asm_line_laws.proofs.ReadBack.{written-token, written-value, written-flags}
use Rattle.m11_asm_line_laws.proofs.digits.written_numbers_are_read_back.Goals as goal

pub returns-clause-token : goal.returns-clause-token
returns-clause-token c = written-token

pub returns-clause-value : goal.returns-clause-value
returns-clause-value c = written-value

pub returns-clause-flags : goal.returns-clause-flags
returns-clause-flags c = written-flags

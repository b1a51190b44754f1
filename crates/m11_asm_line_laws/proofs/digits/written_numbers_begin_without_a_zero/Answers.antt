use Rattle.m11_asm_line_laws.proofs.ReadBack.{written-first, written-zero}
use Rattle.m11_asm_line_laws.proofs.digits.written_numbers_begin_without_a_zero.Goals as goal

pub returns-clause-zero : goal.returns-clause-zero
returns-clause-zero c = written-zero

pub returns-clause-first : goal.returns-clause-first
returns-clause-first c = written-first

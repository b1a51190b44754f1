use Rattle.m11_asm_line_laws.proofs.Printing.{example-written, statements-written}
use Rattle.m11_asm_line_laws.proofs.statements.statements_are_read_as_they_are_written.Goals as goal

pub returns-clause-read : goal.returns-clause-read
returns-clause-read c = statements-written

pub returns-clause-example : goal.returns-clause-example
returns-clause-example c = example-written

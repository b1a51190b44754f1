use Rattle.m11_asm_line_laws.proofs.ReadAsWritten.{bodies-exists, bodies-written}
use Rattle.m11_asm_line_laws.proofs.statements.bodies_are_read_as_they_are_written.Goals as goal

pub returns-clause-written : goal.returns-clause-written
returns-clause-written c = bodies-written

pub returns-clause-exists : goal.returns-clause-exists
returns-clause-exists c = bodies-exists

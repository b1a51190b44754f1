use Rattle.m11_scan_line_laws.proofs.Reached.{begins, goes_on}
use Rattle.m11_scan_line_laws.proofs.laws.calls_read_lines_in_order.Goals as goal

pub returns-clause-begins : goal.returns-clause-begins
returns-clause-begins c = begins

pub returns-clause-goes_on : goal.returns-clause-goes_on
returns-clause-goes_on c = goes_on

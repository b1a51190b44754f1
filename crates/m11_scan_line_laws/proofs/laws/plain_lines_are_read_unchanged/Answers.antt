use Rattle.m11_scan_line_laws.proofs.PlainLines.{plain_reading}
use Rattle.m11_scan_line_laws.proofs.laws.plain_lines_are_read_unchanged.Goals as goal

pub returns : goal.returns
returns c = plain_reading

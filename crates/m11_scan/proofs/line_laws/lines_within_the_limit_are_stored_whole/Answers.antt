use Rattle.m11_scan.proofs.PlainTexts.{kept_in_part, kept_whole}
use Rattle.m11_scan.proofs.line_laws.lines_within_the_limit_are_stored_whole.Goals as goal

pub returns-clause-whole : goal.returns-clause-whole
returns-clause-whole c = kept_whole

pub returns-clause-over_long : goal.returns-clause-over_long
returns-clause-over_long c = kept_in_part

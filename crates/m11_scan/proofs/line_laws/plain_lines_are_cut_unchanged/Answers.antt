use Rattle.m11_scan.proofs.PlainTexts.{cut_plain, plain_text}
use Rattle.m11_scan.proofs.line_laws.plain_lines_are_cut_unchanged.Goals as goal

pub returns-clause-cuts : goal.returns-clause-cuts
returns-clause-cuts c = cut_plain

pub returns-clause-texts : goal.returns-clause-texts
returns-clause-texts c = plain_text

use Rattle.m11_scan_line_laws.proofs.Passing.{joined_alike}
use Rattle.m11_scan_line_laws.proofs.laws.sources_after_a_line_feed_are_one_text.Goals as goal

pub returns : goal.returns
returns c = joined_alike

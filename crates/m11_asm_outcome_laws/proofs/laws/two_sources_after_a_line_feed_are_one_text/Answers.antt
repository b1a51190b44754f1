use Rattle.std.proofs.Common.{sym, subst}
use Rattle.m11_asm.specs.Outcome.{HasOutcome}
use Rattle.m11_scan_line_laws.specs.Readings.{Reading}
use Rattle.m11_asm_outcome_laws.proofs.laws.two_sources_after_a_line_feed_are_one_text.Goals as goal

pub returns : goal.returns
returns c = λ one other sources outcome.
    let same = c.sources_after_a_line_feed_are_one_text.ensures one other sources in
    let P : Reading → Type 0 = λ r. HasOutcome r r outcome in
    (subst P same, subst P (sym same))

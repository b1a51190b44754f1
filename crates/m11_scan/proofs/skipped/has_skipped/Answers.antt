use Rattle.std.proofs.Common.{sym, ◌∙◌}
use Rattle.m11_scan.proofs.KeptTexts.{none_skipped}
use Rattle.m11_scan.proofs.skipped.has_skipped.Goals as goal

pub returns-else-has_unkept : goal.returns-else-has_unkept
returns-else-has_unkept c =
    c.if-has_unkept.false ∙ sym (none_skipped c.args.text.now (sym c.has_unkept.ensures ∙ c.if-has_unkept.false))

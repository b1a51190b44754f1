use Rattle.std.proofs.Common.{◌∙◌}
use Rattle.m11_asm.proofs.ListedLines.{writes_line}
use Rattle.m11_asm.proofs.symbol_table.put_empty.Goals as goal

pub returns : goal.returns
returns g c = λ object messages.
    writes_line _ _ _ _ _ (c.as_slice.ensures.value ∙ c.empty_line.ensures) (c.put_report.ensures.writes object messages)

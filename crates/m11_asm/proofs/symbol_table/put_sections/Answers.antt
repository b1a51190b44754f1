use Rattle.std.proofs.Common.{ap, ◌∙◌, arith}
use Rattle.std.proofs.lemmas.List.{drop_all}
use Rattle.m11_asm_listing.specs.SymbolTable.{section_line}
use Rattle.m11_asm_outputs.specs.Outputs.{assembly}
use Rattle.m11_base_writes.proofs.Writing.{stopped_alone}
use Rattle.m11_asm.proofs.ListedLines.{gains_line, line_split, lines_left, stops_line}
use Rattle.m11_base_writes.proofs.Looping.{stopped_there, wrote_all, wrote_one}
use Rattle.m11_asm.proofs.symbol_table.put_sections.Goals as goal

pub returns-in_err-put_report : goal.returns-in_err-put_report
returns-in_err-put_report g c = λ object messages.
    stopped_alone assembly _ _ _ _ _
    (stopped_there assembly _ _ _ _ _ _ _ c.in_err-put_report.field-0.0
    (line_split section_line c.args.sections.now c.sections.section-index c.section-item.result c.sections-test.true c.section-item.is)
    (c.sections.invariant object messages)
    (stops_line _ _ _ _ _ (c.as_slice.ensures.value ∙ c.section_line.ensures) (c.in_err-put_report.ensures.writes object messages)))
    c.from_residual.ensures.1

pub sections-preserved : goal.sections-preserved
sections-preserved g c = λ object messages.
    wrote_one assembly _ _ _ _ _ _ _
    (line_split section_line c.args.sections.now c.sections.section-index c.section-item.result c.sections-test.true c.section-item.is)
    (c.sections.invariant object messages)
    (gains_line _ _ _ _ (c.as_slice.ensures.value ∙ c.section_line.ensures) (c.in_ok-put_report.ensures.writes object messages))

pub returns : goal.returns
returns g c = λ object messages.
    wrote_all assembly _ _ _ _ tt (ap (lines_left section_line) (drop_all c.sections.section-index c.args.sections.now (omega arith)))
    (c.sections.invariant object messages)

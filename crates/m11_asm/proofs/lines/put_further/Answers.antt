use Rattle.std.proofs.Common.{sym, ◌∙◌, arith}
use Rattle.std.proofs.lemmas.Bool.{eqb-false, eqb-true}
use Rattle.m11_asm_outputs.specs.Outputs.{assembly}
use Rattle.m11_base_writes.proofs.Writing.{stopped_alone}
use Rattle.m11_asm.proofs.ListedLines.{further_none, further_rest, further_split, gains_line, less_left, stops_line}
use Rattle.m11_base_writes.proofs.Looping.{stopped_there, wrote_all, wrote_one}
use Rattle.m11_asm.proofs.lines.put_further.Goals as goal

pub lines-init : goal.lines-init
lines-init g c = λ object messages new result h. h

pub returns-in_err-put_report : goal.returns-in_err-put_report
returns-in_err-put_report g c = λ object messages.
    stopped_alone assembly _ _ _ _ _
    (stopped_there assembly _ _ _ _ _ _ _ c.in_err-put_report.field-0.0
    (further_split c.lines.location c.lines.left.now (omega (arith, eqb-false _ 0 (sym c.is_empty.ensures ∙ c.lines-test.true))))
    (c.lines.invariant object messages) (stops_line _ _ _ _ _ (c.as_slice.ensures.value ∙ c.further_line.ensures) (c.in_err-put_report.ensures.writes object messages)))
    c.from_residual.ensures.1

pub lines-smaller : goal.lines-smaller
lines-smaller g c =
    less_left c.lines.left.now c.three.result.1.now (omega (arith, eqb-false _ 0 (sym c.is_empty.ensures ∙ c.lines-test.true)))
    c.three.ensures.more

pub lines-preserved : goal.lines-preserved
lines-preserved g c = λ object messages.
    wrote_one assembly _ _ _ _ _ _ _
    (further_rest c.lines.location c.location_after-location.result c.lines.left.now c.three.result.0.now c.three.result.1.now
    (omega (arith, eqb-false _ 0 (sym c.is_empty.ensures ∙ c.lines-test.true))) c.three.ensures.first c.three.ensures.more
    c.location_after-location.ensures)
    (c.lines.invariant object messages)
    (gains_line _ _ _ _ (c.as_slice.ensures.value ∙ c.further_line.ensures) (c.in_ok-put_report.ensures.writes object messages))

pub returns : goal.returns
returns g c = λ object messages.
    wrote_all assembly _ _ _ _ tt
    (further_none c.lines.location c.lines.left.now (omega (arith, eqb-true _ 0 (sym c.is_empty.ensures ∙ c.lines-test.false))))
    (c.lines.invariant object messages)

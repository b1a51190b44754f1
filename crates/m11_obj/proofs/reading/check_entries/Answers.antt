use Rattle.std.proofs.Common.{sym, ◌∙◌, arith}
use Rattle.std.proofs.lemmas.Bool.{eqb-true, eqb-false}
use Rattle.m11_obj.proofs.Steps.{entry_shrinks, entries_checked, entries_stop, entries_end}
use Rattle.m11_obj.proofs.reading.check_entries.Goals as goal

pub returns-in-Err : goal.returns-in-Err
returns-in-Err c =
    sym (entries_stop c.loop-rest.rest.now c.in-Err.fault
    (omega (arith, eqb-false _ 0 (sym c.is_empty.ensures ∙ c.loop-rest-test.true))) c.in-Err.ensures)
    ∙ c.loop-rest.invariant

pub loop-rest-smaller : goal.loop-rest-smaller
loop-rest-smaller c =
    entry_shrinks.shorter c.loop-rest.rest.now (c.in-Ok.field-0-0, c.in-Ok.following.now) c.in-Ok.ensures

pub loop-rest-preserved : goal.loop-rest-preserved
loop-rest-preserved c =
    sym (entries_checked c.loop-rest.rest.now c.in-Ok.field-0-0 c.in-Ok.following.now c.in-Ok.ensures)
    ∙ c.loop-rest.invariant

pub returns : goal.returns
returns c = sym (entries_end c.loop-rest.rest.now
    (omega (arith, eqb-true _ 0 (sym c.is_empty.ensures ∙ c.loop-rest-test.false)))) ∙ c.loop-rest.invariant

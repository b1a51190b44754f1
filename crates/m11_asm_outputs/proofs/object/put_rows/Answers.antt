use Rattle.std.proofs.Common.{arith}
use Rattle.std.proofs.lemmas.Result.{err_from_is_err_and}
use Rattle.std.proofs.lemmas.List.{drop_all}
use Rattle.m11_asm_outputs.specs.Object.{WaitsAfter, full_records}
use Rattle.m11_asm_outputs.proofs.Closing.{full-grows}
use Rattle.m11_asm_outputs.proofs.Looping.{item_left}
use Rattle.m11_asm_outputs.proofs.Taking.{all_fit, all_held, all_written, none_taken, one_taken, stopped_at}
use Rattle.m11_asm_outputs.proofs.object.put_rows.Goals as goal

pub rows-init : goal.rows-init
rows-init g c = none_taken full_records full-grows WaitsAfter _ c.args.waiting.now c.args.rows.now

pub returns-in_err-put_row-clause-writes : goal.returns-in_err-put_row-clause-writes
returns-in_err-put_row-clause-writes g c = λ before h listing messages.
    let r = c.from_residual in
    let p = err_from_is_err_and r.result r.ensures.1 in
    rw (p.1, p.2)
    (stopped_at full_records full-grows WaitsAfter _ c.args.waiting.now c.args.rows.now _ c.rows.waiting c.row-item.result _ _
    (item_left c.args.rows.now c.rows.row-index c.row-item.result c.rows-test.true c.row-item.is) c.rows.invariant before h
    listing messages _ _ (λ done held. c.in_err-put_row.ensures.writes done held listing messages))

pub rows-preserved : goal.rows-preserved
rows-preserved g c =
    one_taken full_records full-grows WaitsAfter _ c.args.waiting.now c.args.rows.now _ c.rows.waiting c.row-item.result _ _
    (item_left c.args.rows.now c.rows.row-index c.row-item.result c.rows-test.true c.row-item.is) c.rows.invariant _ _
    c.in_ok-put_row.ensures.writes c.in_ok-put_row.ensures.waits c.in_ok-put_row.ensures.fit

pub returns-clause-writes : goal.returns-clause-writes
returns-clause-writes g c = λ before h listing messages.
    all_written full_records full-grows WaitsAfter _ c.args.waiting.now c.args.rows.now _ c.rows.waiting _
    (drop_all c.rows.row-index c.args.rows.now (omega arith)) c.rows.invariant before h listing messages

pub returns-clause-waits : goal.returns-clause-waits
returns-clause-waits g c = λ before h.
    all_held full_records full-grows WaitsAfter _ c.args.waiting.now c.args.rows.now _ c.rows.waiting _
    (drop_all c.rows.row-index c.args.rows.now (omega arith)) c.rows.invariant before h

pub returns-clause-fit : goal.returns-clause-fit
returns-clause-fit g c = λ before h.
    all_fit full_records full-grows WaitsAfter _ c.args.waiting.now c.args.rows.now _ c.rows.waiting _
    (drop_all c.rows.row-index c.args.rows.now (omega arith)) c.rows.invariant before h

use Rattle.std.proofs.Common.{arith, ap, sym, ◌∙◌, ◌∷◌, ◌+◌, ℕ, drop}
use Rattle.std.proofs.lemmas.Result.{err_from_is_err_and}
use Rattle.std.proofs.lemmas.List.{drop_all}
use Rattle.m11_asm_rules.specs.Contents.{piece, pieces_from}
use Rattle.m11_asm_outputs.specs.Object.{IsOpenAfter, closed_records}
use Rattle.m11_asm_outputs.proofs.Closing.{closed-grows}
use Rattle.m11_asm_outputs.proofs.Looping.{item_left}
use Rattle.m11_asm_outputs.proofs.Taking.{all_fit, all_held, all_written, none_taken, one_taken, stopped_at}
use Rattle.m11_asm_outputs.proofs.object.put_pieces.Goals as goal

pub contents-init : goal.contents-init
contents-init g c =
    none_taken closed_records closed-grows IsOpenAfter _ c.args.text.now
    (pieces_from c.args.section c.args.location c.args.contents.now)

pub returns-in_err-put_piece-clause-writes : goal.returns-in_err-put_piece-clause-writes
returns-in_err-put_piece-clause-writes g c = λ before h listing messages.
    let r = c.from_residual in
    let p = err_from_is_err_and r.result r.ensures.1 in
    rw (p.1, p.2)
    (stopped_at closed_records closed-grows IsOpenAfter _ c.args.text.now
    (pieces_from c.args.section c.args.location c.args.contents.now) _ c.contents.text
    (piece c.args.section c.contents.next c.content-item.result) _ _
    (ap (pieces_from c.args.section c.contents.next)
    (item_left c.args.contents.now c.contents.content-index c.content-item.result c.contents-test.true c.content-item.is))
    c.contents.invariant before h listing messages _ _
    (λ done held. c.in_err-put_piece.ensures.writes done held listing messages))

pub contents-preserved : goal.contents-preserved
contents-preserved g c =
    let rest = drop (c.contents.content-index + 1) c.args.contents.now in
    let this = piece c.args.section c.contents.next c.content-item.result in
    one_taken closed_records closed-grows IsOpenAfter _ c.args.text.now
    (pieces_from c.args.section c.args.location c.args.contents.now) _ c.contents.text this _ _
    (ap (pieces_from c.args.section c.contents.next)
    (item_left c.args.contents.now c.contents.content-index c.content-item.result c.contents-test.true c.content-item.is)
    ∙ ap (λ (next : ℕ). this ∷ pieces_from c.args.section next rest) (sym c.location_after-next.ensures))
    c.contents.invariant _ _ c.in_ok-put_piece.ensures.writes c.in_ok-put_piece.ensures.opens c.in_ok-put_piece.ensures.fit

pub returns-clause-writes : goal.returns-clause-writes
returns-clause-writes g c = λ before h listing messages.
    all_written closed_records closed-grows IsOpenAfter _ c.args.text.now
    (pieces_from c.args.section c.args.location c.args.contents.now) _ c.contents.text _
    (ap (pieces_from c.args.section c.contents.next)
    (drop_all c.contents.content-index c.args.contents.now (omega arith)))
    c.contents.invariant before h listing messages

pub returns-clause-opens : goal.returns-clause-opens
returns-clause-opens g c = λ before h.
    all_held closed_records closed-grows IsOpenAfter _ c.args.text.now
    (pieces_from c.args.section c.args.location c.args.contents.now) _ c.contents.text _
    (ap (pieces_from c.args.section c.contents.next)
    (drop_all c.contents.content-index c.args.contents.now (omega arith)))
    c.contents.invariant before h

pub returns-clause-fit : goal.returns-clause-fit
returns-clause-fit g c = λ before h.
    all_fit closed_records closed-grows IsOpenAfter _ c.args.text.now
    (pieces_from c.args.section c.args.location c.args.contents.now) _ c.contents.text _
    (ap (pieces_from c.args.section c.contents.next)
    (drop_all c.contents.content-index c.args.contents.now (omega arith)))
    c.contents.invariant before h

use Rattle.std.proofs.Common.{◌∙◌, ◌+◌, ◌-◌, arith}
use Rattle.std.proofs.lemmas.Result.{err_from_is_err_and}
use Rattle.m11_trace.proofs.Copies.{alike_walked, all_walked, change_failed, none_walked, one_changed, same_words}
use Rattle.m11_trace.proofs.changes.put_changes.Goals as goal

pub changes-init : goal.changes-init
changes-init g c =
    let from = c.changed_from-index in (
      alike_walked _ _ _ from.result 0 from.result _ _ _ _ (none_walked _ _ _ _) (omega arith) from.ensures.within from.ensures.alike,
      from.ensures.within,
      from.ensures.changed,
    )

pub returns-in_err-put_text-clause-puts : goal.returns-in_err-put_text-clause-puts
returns-in_err-put_text-clause-puts g c =
    let w = c.changes.invariant in
    let r = c.from_residual in
    let p = err_from_is_err_and r.result r.ensures.1 in
    rw (p.1, p.2)
    (change_failed _ _ _ _ _ _ _ _ w.0 c.changes-test.true _ c.word_or_none-word.ensures
    (λ e. w.2 c.changes-test.true (e ∙ c.word_or_none-word.ensures))
    _ (c.as_slice.ensures.value ∙ c.word_text.ensures) _ _ _ c.in_err-put_text.ensures)

pub changes-preserved : goal.changes-preserved
changes-preserved g c =
    let w = c.changes.invariant in
    let from = c.changed_from-index-in-changes in
    let put = c.in_ok-put_text.ensures in
    let one = one_changed _ _ _ _ _ _ _ _ w.0 c.changes-test.true _ c.word_or_none-word.ensures
    (λ e. w.2 c.changes-test.true (e ∙ c.word_or_none-word.ensures)) _ (c.as_slice.ensures.value ∙ c.word_text.ensures) _ _ (omega arith)
    put.0 put.1 in (
      alike_walked _ _ _ (from.result - (c.changes.index + 1)) (c.changes.index + 1) from.result _ _ _ _ one (omega (arith, from.ensures.after))
          from.ensures.within from.ensures.alike,
      from.ensures.within,
      from.ensures.changed,
    )

pub returns-clause-puts : goal.returns-clause-puts
returns-clause-puts g c = all_walked _ _ _ _ _ _ _ _ c.changes.invariant.0 c.changes.invariant.1 (omega arith)

pub returns-clause-same : goal.returns-clause-same
returns-clause-same g c = same_words _ _ (λ k lt. c.changes.invariant.0.done k (omega arith))

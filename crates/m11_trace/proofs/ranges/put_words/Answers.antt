use Rattle.std.proofs.Common.{◌∙◌, sym}
use Rattle.std.proofs.lemmas.Result.{err_from_is_err_and}
use Rattle.m11_trace.proofs.Parts.{one_put, word_failed}
use Rattle.m11_trace.proofs.Reports.{puts_same}
use Rattle.m11_trace.proofs.ranges.put_words.Goals as goal

pub words-preserved : goal.words-preserved
words-preserved g c =
    let text = c.as_slice.ensures.value ∙ c.word_cell.ensures in
    let put = rw text at c.in_ok-put_text-in-Some.ensures in
    one_put _ _ _ _ _ _ _ _ c.words.invariant _ _ c.in-Some.word c.words-test.true (sym c.in-Some.is ∙ c.word_past.ensures) put.0 put.1

pub returns-in_err-put_text-in-Some : goal.returns-in_err-put_text-in-Some
returns-in_err-put_text-in-Some g c =
    let text = c.as_slice.ensures.value ∙ c.word_cell.ensures in
    let r = c.from_residual in
    let p = err_from_is_err_and r.result r.ensures.1 in
    rw (p.1, p.2) (word_failed _ _ _ _ _ _ _ _ c.words.invariant _ _ c.in-Some.word _ c.words-test.true
    (sym c.in-Some.is ∙ c.word_past.ensures) (puts_same _ _ _ _ _ _ _ text c.in_err-put_text-in-Some.ensures))

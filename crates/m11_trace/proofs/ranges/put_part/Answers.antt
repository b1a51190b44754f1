use Rattle.std.proofs.Common.{[], ◌∷◌, ap}
use Rattle.std.proofs.lemmas.Result.{err_from_is_err_and}
use Rattle.m11_trace.specs.Ranges.{even_of, words_from}
use Rattle.m11_trace.proofs.Reports.{puts_part, puts_same, puts_then}
use Rattle.m11_trace.proofs.ranges.put_part.Goals as goal

pub returns-in_err-put_words : goal.returns-in_err-put_words
returns-in_err-put_words g c =
    let r = c.from_residual in
    let p = err_from_is_err_and r.result r.ensures.1 in
    rw (p.1, p.2) (puts_part _ _ _ _ _ (10 ∷ []) _ (puts_same _ _ _ _ _ _ _
    (ap (words_from c.args.memory.now (even_of c.args.range.now.first) 0) c.count_of.ensures.count) c.in_err-put_words.ensures))

pub returns : goal.returns
returns g c =
    puts_then _ _ _ _ _ _ _ (10 ∷ []) _ c.put_text.result (rw c.count_of.ensures.count at c.in_ok-put_words.ensures) c.put_text.ensures

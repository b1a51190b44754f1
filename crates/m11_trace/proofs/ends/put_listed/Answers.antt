use Rattle.std.proofs.Common.{◌≡◌, ◌∙◌, List, ℕ, [], ◌∷◌, ◌++◌, append_assoc, ap, sym, subst}
use Rattle.std.proofs.lemmas.Result.{err_from_is_err_and}
use Rattle.std.specs.Prelude.{codes}
use Rattle.m11_cpu.specs.Messages.{PutsMessages}
use Rattle.m11_trace.specs.Lines.{status_change}
use Rattle.m11_trace.proofs.Reports.{puts_part, puts_same, puts_then}
use Rattle.m11_trace.proofs.ends.put_listed.Goals as goal

-- a text in four parts, of which the first two and the last two are put together, or the two in the middle
four_parts : (status first text end : List ℕ) → (status ++ first) ++ (text ++ end) ≡ status ++ ((first ++ text) ++ end)
four_parts status first text end =
    append_assoc status first (text ++ end) ∙ ap (λ (t : List ℕ). status ++ t) (sym (append_assoc first text end))

pub returns-in_err-put_text : goal.returns-in_err-put_text
returns-in_err-put_text g c =
    let text = c.as_slice.ensures.value ∙ c.status_and.ensures in
    let r = c.from_residual in
    let p = err_from_is_err_and r.result r.ensures.1 in
    rw (p.1, p.2)
    (puts_same _ _ _ _ _ _ _ (four_parts (status_change c.args.before c.args.later) (codes "\t;") c.args.text.now (10 ∷ []))
    (puts_part _ _ _ _ _ (c.args.text.now ++ 10 ∷ []) _ (puts_same _ _ _ _ _ _ _ text c.in_err-put_text.ensures)))

pub returns : goal.returns
returns g c =
    let text = c.as_slice.ensures.value ∙ c.status_and.ensures in
    let P : List ℕ → Type 0 = λ t. PutsMessages (g.M.Sink.text c.args.messages.now) (g.M.Sink.text c.put_ended.new.messages)
    (g.M.Sink.faults c.args.messages.now) (g.M.Sink.faults c.put_ended.new.messages) t c.put_ended.result in
    subst P (four_parts (status_change c.args.before c.args.later) (codes "\t;") c.args.text.now (10 ∷ []))
    (puts_then _ _ _ _ _ _ _ _ _ c.put_ended.result (rw text at c.in_ok-put_text.ensures) c.put_ended.ensures)

use Rattle.std.proofs.Common.{ℕ, [], ◌∷◌, ◌++◌, Some, sym, ap, subst, ◌∙◌}
use Rattle.m11_obj.specs.OpenText.{IsOpenText, records_in}
use Rattle.m11_obj.specs.Texts.{TextParts, text_of}
use Rattle.m11_obj.proofs.TextCuts.{begins, goes_in, closes}
use Rattle.m11_obj.proofs.open_text.OpenText.accept.Goals as goal

pub returns-in_default : goal.returns-in_default
returns-in_default c = λ pieces written h.
    begins pieces written c.args.piece.now c.start.result
    (subst (λ text. IsOpenText pieces written text) (sym c.self.view_is ∙ c.in_default.is) h) c.start.ensures

pub returns-then-fits : goal.returns-then-fits
returns-then-fits c = λ pieces written h.
    goes_in pieces written c.args.piece.now c.in-Some.text c.push.new.self
    (subst (λ text. IsOpenText pieces written text) (sym c.self.view_is ∙ c.in-Some.is) h) (sym c.if-fits.ensures)
    c.push.ensures

pub returns : goal.returns
returns c = λ pieces written h.
    let stood = subst (λ text. IsOpenText pieces written text) (sym c.self.view_is ∙ c.in-Some.is) h in
    let following = c.replace.ensures.after ∙ c.start-following.ensures
    ∙ ap (λ (section : ℕ × ℕ). text_of (Some section) c.args.piece.now []) c.section.ensures in
    let closed = closes pieces written c.args.piece.now c.in-Some.text c.replace.new.dest stood (sym c.if-fits.ensures)
    following in
    subst (λ (text : TextParts). IsOpenText (pieces ++ c.args.piece.now ∷ []) (written ++ records_in (Some text))
    (Some c.replace.new.dest)) (sym c.replace.ensures.value) closed

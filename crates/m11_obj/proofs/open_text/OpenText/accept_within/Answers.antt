use Rattle.std.proofs.Common.{sym, subst, ◌∙◌}
use Rattle.m11_obj.specs.OpenText.{IsOpenText}
use Rattle.m11_obj.proofs.TextCuts.{goes_in}
use Rattle.m11_obj.proofs.open_text.OpenText.accept_within.Goals as goal

pub returns-then-fits-clause-takes : goal.returns-then-fits-clause-takes
returns-then-fits-clause-takes c _ = λ pieces written h.
    goes_in pieces written c.args.piece.now c.in-Some.text c.push.new.self
    (subst (λ text. IsOpenText pieces written text) (sym c.self.view_is ∙ c.in-Some.is) h) (sym c.if-fits.ensures)
    c.push.ensures

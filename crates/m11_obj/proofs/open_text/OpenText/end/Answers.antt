use Rattle.std.proofs.Common.{sym, subst}
use Rattle.m11_obj.specs.OpenText.{IsOpenText}
use Rattle.m11_obj.proofs.TextCuts.{ends}
use Rattle.m11_obj.proofs.open_text.OpenText.end.Goals as goal

pub returns : goal.returns
returns c = λ pieces written h.
    ends pieces written c.self.inside.text (subst (λ text. IsOpenText pieces written text) (sym c.self.view_is) h)

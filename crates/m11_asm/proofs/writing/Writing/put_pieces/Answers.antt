use Rattle.std.proofs.Common.{Option, sym, ap, subst}
use Rattle.m11_asm_outputs.specs.Object.{IsOpenAfter}
use Rattle.m11_obj.specs.Texts.{TextParts}
use Rattle.m11_asm.specs.Writing.{Writing}
use Rattle.m11_asm.proofs.writing.Writing.put_pieces.Goals as goal

pub returns-clause-writes : goal.returns-clause-writes
returns-clause-writes g c = λ before opens listing messages.
    let P : Option TextParts → Type 0 = λ t. IsOpenAfter before t in
    c.put_pieces.ensures.writes before (subst P (sym (ap (λ (w : Writing). w.text) c.self.view_is)) opens) listing messages

pub returns-clause-fit : goal.returns-clause-fit
returns-clause-fit g c = λ before opens.
    let P : Option TextParts → Type 0 = λ t. IsOpenAfter before t in
    c.put_pieces.ensures.fit before (subst P (sym (ap (λ (w : Writing). w.text) c.self.view_is)) opens)

use Rattle.std.proofs.Common.{◌∙◌, [], ◌∷◌, ap, refl, Ok, Err}
use Rattle.m11_link_modules.specs.Parts.{Text}
use Rattle.m11_link_modules.proofs.KnownAfter.{accepted_after}
use Rattle.m11_link_modules.proofs.Taking.{accepted_one}
use Rattle.m11_link_layout.specs.Layout.{LayoutState}
use Rattle.m11_link_layout.proofs.Standing.{fault_reported, parts_taken, text_noted}
use Rattle.m11_link_layout.proofs.layout.Layout.accept_text.Goals as goal

pub returns-in_err-text-clause-takes : goal.returns-in_err-text-clause-takes
returns-in_err-text-clause-takes c = λ bottom before s.
    let part = Text c.args.address c.args.bytes.now in
    let broken = c.in_err-text.field-0.0 in
    fault_reported before (part ∷ []) c.self.inside.rules c.text.new.self broken _ bottom c.from_residual.result
    (ap (λ (l : LayoutState). l.known) c.self.view_is ∙ s.known)
    (accepted_one c.self.inside.rules c.text.new.self part (Err broken) c.in_err-text.ensures) c.from_residual.ensures.1

pub returns-clause-takes : goal.returns-clause-takes
returns-clause-takes c = λ bottom before s.
    let part = Text c.args.address c.args.bytes.now in
    parts_taken bottom before (part ∷ []) c.args.self.now c.self.view_is s
    (λ k. accepted_after before c.self.inside.rules c.text.new.self (part ∷ []) (Ok tt) k
    (accepted_one c.self.inside.rules c.text.new.self part (Ok tt) c.in_ok-text.ensures))
    (text_noted c.self.inside.bottom c.args.address c.args.bytes.now c.self.inside.tables) refl refl

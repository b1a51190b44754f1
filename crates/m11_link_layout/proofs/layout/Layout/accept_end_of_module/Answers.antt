use Rattle.std.proofs.Common.{◌∙◌, [], ◌∷◌, ap, refl, Ok, Err}
use Rattle.m11_link_modules.specs.Parts.{EndOfModule}
use Rattle.m11_link_modules.proofs.KnownAfter.{accepted_after}
use Rattle.m11_link_modules.proofs.Taking.{accepted_one}
use Rattle.m11_link_layout.specs.Layout.{LayoutState}
use Rattle.m11_link_layout.proofs.Standing.{fault_reported, memory_refused, parts_taken, end_of_module_noted}
use Rattle.m11_link_layout.proofs.layout.Layout.accept_end_of_module.Goals as goal

pub returns-in_err-end_of_module-clause-takes : goal.returns-in_err-end_of_module-clause-takes
returns-in_err-end_of_module-clause-takes c = λ bottom before s.
    let broken = c.in_err-end_of_module.field-0.0 in
    fault_reported before (EndOfModule ∷ []) c.self.inside.rules c.end_of_module.new.self broken _ bottom c.from_residual.result
    (ap (λ (l : LayoutState). l.known) c.self.view_is ∙ s.known)
    (accepted_one c.self.inside.rules c.end_of_module.new.self EndOfModule (Err broken) c.in_err-end_of_module.ensures) c.from_residual.ensures.1

pub returns-clause-takes : goal.returns-clause-takes
returns-clause-takes c = λ bottom before s.
    parts_taken bottom before (EndOfModule ∷ []) c.args.self.now c.self.view_is s
    (λ k. accepted_after before c.self.inside.rules c.end_of_module.new.self (EndOfModule ∷ []) (Ok tt) k
    (accepted_one c.self.inside.rules c.end_of_module.new.self EndOfModule (Ok tt) c.in_ok-end_of_module.ensures))
    (end_of_module_noted c.self.inside.bottom c.self.inside.tables c.end_module.new.self c.in_ok-end_module.ensures) refl refl

pub returns-in_err-end_module-clause-takes : goal.returns-in_err-end_module-clause-takes
returns-in_err-end_module-clause-takes c = λ bottom before s. memory_refused bottom before (EndOfModule ∷ []) c.args.self.now _ _ _
    c.self.view_is s (accepted_one c.self.inside.rules c.end_of_module.new.self EndOfModule (Ok tt) c.in_ok-end_of_module.ensures) c.from_residual-in_err-end_module.ensures.1

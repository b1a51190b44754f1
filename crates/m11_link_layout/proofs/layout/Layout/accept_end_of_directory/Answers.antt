use Rattle.std.proofs.Common.{◌∙◌, [], ◌∷◌, ap, refl, Ok, Err}
use Rattle.m11_link_modules.specs.Parts.{EndOfDirectory}
use Rattle.m11_link_modules.proofs.KnownAfter.{accepted_after}
use Rattle.m11_link_modules.proofs.Taking.{accepted_one}
use Rattle.m11_link_layout.specs.Layout.{LayoutState}
use Rattle.m11_link_layout.proofs.Standing.{fault_reported, parts_taken, end_of_directory_noted}
use Rattle.m11_link_layout.proofs.layout.Layout.accept_end_of_directory.Goals as goal

pub returns-in_err-end_of_directory-clause-takes : goal.returns-in_err-end_of_directory-clause-takes
returns-in_err-end_of_directory-clause-takes c = λ bottom before s.
    let broken = c.in_err-end_of_directory.field-0.0 in
    fault_reported before (EndOfDirectory ∷ []) c.self.inside.rules c.end_of_directory.new.self broken _ bottom c.from_residual.result
    (ap (λ (l : LayoutState). l.known) c.self.view_is ∙ s.known)
    (accepted_one c.self.inside.rules c.end_of_directory.new.self EndOfDirectory (Err broken) c.in_err-end_of_directory.ensures) c.from_residual.ensures.1

pub returns-clause-takes : goal.returns-clause-takes
returns-clause-takes c = λ bottom before s.
    parts_taken bottom before (EndOfDirectory ∷ []) c.args.self.now c.self.view_is s
    (λ k. accepted_after before c.self.inside.rules c.end_of_directory.new.self (EndOfDirectory ∷ []) (Ok tt) k
    (accepted_one c.self.inside.rules c.end_of_directory.new.self EndOfDirectory (Ok tt) c.in_ok-end_of_directory.ensures))
    (end_of_directory_noted c.self.inside.bottom c.self.inside.tables) refl refl

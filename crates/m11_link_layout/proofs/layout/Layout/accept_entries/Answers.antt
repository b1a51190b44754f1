use Rattle.std.proofs.Common.{◌∙◌, ap, refl, Ok}
use Rattle.m11_link_modules.specs.Grammar.{directory_parts}
use Rattle.m11_link_modules.proofs.KnownAfter.{accepted_after}
use Rattle.m11_link_layout.specs.Layout.{LayoutState}
use Rattle.m11_link_layout.proofs.Standing.{directory_noted, fault_reported, memory_refused, parts_taken}
use Rattle.m11_link_layout.proofs.layout.Layout.accept_entries.Goals as goal

pub returns-in_err-directory-clause-takes : goal.returns-in_err-directory-clause-takes
returns-in_err-directory-clause-takes c = λ bottom before s.
    fault_reported before (directory_parts c.args.entries.now) c.self.inside.rules c.directory.new.self
    c.in_err-directory.field-0.0 _ bottom c.from_residual.result
    (ap (λ (l : LayoutState). l.known) c.self.view_is ∙ s.known) c.in_err-directory.ensures c.from_residual.ensures.1

pub returns-clause-takes : goal.returns-clause-takes
returns-clause-takes c = λ bottom before s.
    parts_taken bottom before (directory_parts c.args.entries.now) c.args.self.now c.self.view_is s
    (λ k. accepted_after before c.self.inside.rules c.directory.new.self (directory_parts c.args.entries.now) (Ok tt) k
    c.in_ok-directory.ensures)
    (directory_noted c.self.inside.bottom c.args.entries.now c.self.inside.tables c.add_entries.new.self
    c.in_ok-add_entries.ensures) refl refl

pub returns-in_err-add_entries-clause-takes : goal.returns-in_err-add_entries-clause-takes
returns-in_err-add_entries-clause-takes c = λ bottom before s. memory_refused bottom before (directory_parts c.args.entries.now) c.args.self.now _ _ _
    c.self.view_is s c.in_ok-directory.ensures c.from_residual-in_err-add_entries.ensures.1

use Rattle.std.proofs.Common.{◌∷◌, ◌++◌, ◌∙◌, List, sym, subst, refl, Ok}
use Rattle.m11_obj.specs.Reading.{relocations_left}
use Rattle.m11_obj.specs.Records as records
use Rattle.m11_obj.proofs.Unread.{are_where_checked, record_read}
use Rattle.m11_link_modules.specs.Parts.{Part, Relocations}
use Rattle.m11_link_modules.specs.Steps.{RulesAccept}
use Rattle.m11_link_modules.proofs.KnownAfter.{accepted_after}
use Rattle.m11_link_modules.proofs.Taking.{Outcome}
use Rattle.m11_link_modules.proofs.Unread.{parts_left, record_of_parts}
use Rattle.m11_link_layout.specs.Layout.{LayoutAfter}
use Rattle.m11_link_layout.proofs.Standing.{block_taken, fault_reported, parts_taken}
use Rattle.m11_link_layout.proofs.layout.Layout.accept_relocations.Goals as goal

pub returns-in_err-branch-clause-takes : goal.returns-in_err-branch-clause-takes
returns-in_err-branch-clause-takes c = λ bottom before bytes s e.
    let unread = c.args.unread.now in
    let parts = Relocations ∷ parts_left unread in
    let are = are_where_checked unread tt (sym c.in_ok-add_relocations.ensures.read) in
    let old = c.args.self.now.known in
    let new = c.add_relocations.new.self.known in
    let P : Outcome → Type 0 = λ judged. RulesAccept old new parts judged in
    block_taken bottom before c.add_relocations.new.self bytes (records.Relocations (relocations_left unread))
    c.from_residual-in_err-branch.result (e ∙ record_read unread are)
    (fault_reported before parts old new c.in_err-branch.field-0.0 c.add_relocations.new.self bottom
    c.from_residual-in_err-branch.result s.known (subst P c.in_err-branch.was c.in_ok-add_relocations.ensures.judged)
    c.from_residual-in_err-branch.ensures.1)

pub returns-clause-takes : goal.returns-clause-takes
returns-clause-takes c = λ bottom before bytes s e.
    let unread = c.args.unread.now in
    let parts = Relocations ∷ parts_left unread in
    let are = are_where_checked unread tt (sym c.in_ok-add_relocations.ensures.read) in
    let old = c.args.self.now.known in
    let new = c.add_relocations.new.self.known in
    let P : Outcome → Type 0 = λ judged. RulesAccept old new parts judged in
    let Q : List Part → Type 0 = λ these. LayoutAfter bottom (before ++ these) c.add_relocations.new.self in
    subst Q (sym (record_of_parts bytes unread e are))
    (parts_taken bottom before parts c.args.self.now refl s
    (λ k. accepted_after before old new parts (Ok tt) k (subst P c.in_ok-branch.was c.in_ok-add_relocations.ensures.judged))
    (rw c.in_ok-branch.was at c.in_ok-add_relocations.ensures.noted) c.in_ok-add_relocations.ensures.bottom
    c.in_ok-add_relocations.ensures.kept)

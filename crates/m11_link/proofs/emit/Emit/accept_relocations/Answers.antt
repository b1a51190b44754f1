use Rattle.std.proofs.Common.{◌∷◌, ◌∙◌, sym, subst}
use Rattle.m11_obj.specs.Reading.{relocations_left}
use Rattle.m11_obj.specs.Records as records
use Rattle.m11_obj.proofs.Unread.{are_where_checked, record_read}
use Rattle.m11_link_modules.specs.Parts.{Relocations}
use Rattle.m11_link_modules.specs.Steps.{RulesAccept}
use Rattle.m11_link_modules.proofs.Taking.{Outcome}
use Rattle.m11_link.specs.Emit.{relocated_parts}
use Rattle.m11_link.proofs.Emitted.{content_block, relocations_refused, relocations_taken}
use Rattle.m11_link.proofs.LastText.{held_is_last}
use Rattle.m11_link.proofs.emit.Emit.accept_relocations.Goals as goal

pub returns-in_err-branch-clause-takes : goal.returns-in_err-branch-clause-takes
returns-in_err-branch-clause-takes g c = λ tape plan before bytes stands e.
    let unread = c.args.unread.now in
    let relocations = relocations_left unread in
    let are = are_where_checked unread tt (sym c.in_ok-store_relocations.ensures.read) in
    let P : Outcome → Type 0 = λ judged. RulesAccept c.args.self.now.known c.store_relocations.new.self.known
    (Relocations ∷ relocated_parts relocations) judged in
    content_block plan before _ _ c.args.self.now c.store_relocations.new.self bytes (records.Relocations relocations)
    c.from_residual-in_err-branch.result (e ∙ record_read unread are)
    (relocations_refused plan before relocations c.args.self.now c.store_relocations.new.self stands _
    c.store_relocations.new.self c.in_err-branch.field-0.0 c.from_residual-in_err-branch.result
    (subst P c.in_err-branch.was c.in_ok-store_relocations.ensures.judged) c.from_residual-in_err-branch.ensures.1)

pub returns-clause-takes : goal.returns-clause-takes
returns-clause-takes g c = λ tape plan before bytes stands e.
    let unread = c.args.unread.now in
    let relocations = relocations_left unread in
    let are = are_where_checked unread tt (sym c.in_ok-store_relocations.ensures.read) in
    let P : Outcome → Type 0 = λ judged. RulesAccept c.args.self.now.known c.store_relocations.new.self.known
    (Relocations ∷ relocated_parts relocations) judged in
    content_block plan before _ _ c.args.self.now c.begin.new.self bytes (records.Relocations relocations)
    c.begin.result (e ∙ record_read unread are)
    (relocations_taken plan before relocations c.args.self.now c.store_relocations.new.self stands _ _ c.begin.new.self
    c.begin.result (subst P c.in_ok-branch.was c.in_ok-store_relocations.ensures.judged)
    ((rw c.in_ok-branch.was at c.in_ok-store_relocations.ensures.stored) (held_is_last plan before c.args.self.now stands))
    c.in_ok-store_relocations.ensures.begun c.in_ok-store_relocations.ensures.kept (c.begin.ensures.writes tape))

use Rattle.std.proofs.Common.{◌≡◌, List, [], Option, None, Ok, sym, subst}
use Rattle.m11_obj.specs.OpenText.{records_in}
use Rattle.m11_obj.specs.Texts.{TextParts}
use Rattle.m11_obj.specs.declared.pieces.Piece.{Piece}
use Rattle.m11_base_writes.proofs.Writing.{gains_nothing}
use Rattle.m11_asm_outputs.specs.Object.{IsOpenAfter, closed_records}
use Rattle.m11_asm_outputs.specs.Object.{content_writes}
use Rattle.m11_asm_outputs.specs.Outputs.{Writes, assembly}
use Rattle.m11_base_writes.specs.Outputs.{Outputs}
use Rattle.m11_obj.specs.Records.{Content}
use Rattle.m11_asm_outputs.proofs.Blocks.{contents_as}
use Rattle.m11_asm_outputs.proofs.Closing.{closed_by_piece, open_after_piece}
use Rattle.m11_asm_outputs.proofs.Fitting.{fit_as}
use Rattle.m11_asm_outputs.proofs.Looping.{no_contents}
use Rattle.m11_asm_outputs.proofs.object.put_piece.Goals as goal

still_open : (before : List Piece) (old new : Option TextParts) → new ≡ old → IsOpenAfter before old → IsOpenAfter before new
still_open before old new same stood = subst (IsOpenAfter before) (sym same) stood

none_written : (here : Outputs) (contents : List Content) (done : Unit {0}) → [] ≡ contents
    → Writes here here (content_writes contents) (Ok done)
none_written here contents done none =
    contents_as here here [] contents (Ok done) none (rw no_contents (gains_nothing assembly here))

pub returns-then-accept_within-clause-writes : goal.returns-then-accept_within-clause-writes
returns-then-accept_within-clause-writes g c = λ before h listing messages.
    none_written _ _ _
    (closed_by_piece before c.args.piece.now (records_in None) c.accept_within.new.self
    (c.accept_within.ensures.takes c.if-accept_within.true before (closed_records before) h))

pub returns-then-accept_within-clause-opens : goal.returns-then-accept_within-clause-opens
returns-then-accept_within-clause-opens g c = λ before h.
    open_after_piece before c.args.piece.now (records_in None) c.accept_within.new.self
    (c.accept_within.ensures.takes c.if-accept_within.true before (closed_records before) h)

pub returns-clause-writes : goal.returns-clause-writes
returns-clause-writes g c = λ before h listing messages.
    c.put_closing.ensures.writes before (still_open before _ _ (c.accept_within.ensures.unchanged c.if-accept_within.false) h) listing messages

pub returns-clause-opens : goal.returns-clause-opens
returns-clause-opens g c = λ before h.
    c.put_closing.ensures.opens before (still_open before _ _ (c.accept_within.ensures.unchanged c.if-accept_within.false) h)

pub returns-then-accept_within-clause-fit : goal.returns-then-accept_within-clause-fit
returns-then-accept_within-clause-fit g c = λ before h.
    fit_as [] _
    (closed_by_piece before c.args.piece.now (records_in None) c.accept_within.new.self
    (c.accept_within.ensures.takes c.if-accept_within.true before (closed_records before) h)) tt

pub returns-clause-fit : goal.returns-clause-fit
returns-clause-fit g c = λ before h.
    c.put_closing.ensures.fit before (still_open before _ _ (c.accept_within.ensures.unchanged c.if-accept_within.false) h)

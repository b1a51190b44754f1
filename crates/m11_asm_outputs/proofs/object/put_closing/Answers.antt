use Rattle.m11_obj.specs.OpenText.{records_in}
use Rattle.std.proofs.Common.{[], ◌∷◌}
use Rattle.m11_asm_outputs.specs.Object.{AllFit, closed_records, records_closed_by}
use Rattle.m11_asm_outputs.proofs.Blocks.{contents_as}
use Rattle.m11_asm_outputs.proofs.Closing.{closed_by_piece, open_after_piece}
use Rattle.m11_asm_outputs.proofs.Fitting.{fit_as, on_ok}
use Rattle.m11_asm_outputs.proofs.object.put_closing.Goals as goal

pub returns-clause-writes : goal.returns-clause-writes
returns-clause-writes g c = λ before h listing messages.
    contents_as _ _ _ _ _
    (closed_by_piece before c.args.piece.now (records_in c.accept-closed.result) c.accept-closed.new.self
    (c.accept-closed.ensures before (closed_records before) h))
    (c.put_if_closed.ensures.writes listing messages)

pub returns-clause-opens : goal.returns-clause-opens
returns-clause-opens g c = λ before h.
    open_after_piece before c.args.piece.now (records_in c.accept-closed.result) c.accept-closed.new.self
    (c.accept-closed.ensures before (closed_records before) h)

pub returns-clause-fit : goal.returns-clause-fit
returns-clause-fit g c = λ before h.
    on_ok _ (AllFit (records_in c.accept-closed.result)) (AllFit (records_closed_by before (c.args.piece.now ∷ [])))
    (fit_as _ _ (closed_by_piece before c.args.piece.now (records_in c.accept-closed.result) c.accept-closed.new.self
    (c.accept-closed.ensures before (closed_records before) h)))
    c.put_if_closed.ensures.fit

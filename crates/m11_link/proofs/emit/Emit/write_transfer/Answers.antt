use Rattle.std.proofs.Common.{◌∙◌, ap, [], ◌∷◌, Ok}
use Rattle.m11_obj_blocks.specs.Tapes.{tape_block}
use Rattle.m11_link_text.specs.Findings.{planned}
use Rattle.m11_base_writes.specs.States.{no_output}
use Rattle.m11_link.specs.Outputs.{link}
use Rattle.m11_base_writes.specs.Outputs.{to_product}
use Rattle.m11_link.specs.declared.emit.LinkDone.{LinkDone}
use Rattle.m11_link.proofs.Emitted.{reporting_after, transfer_then}
use Rattle.m11_base_writes.proofs.Writing.{stopped_first, stopped_alone}
use Rattle.m11_link.proofs.emit.Emit.write_transfer.Goals as goal

pub returns-in_err-begin-clause-writes : goal.returns-in_err-begin-clause-writes
returns-in_err-begin-clause-writes g c =
    stopped_first link _ _ _ _ _ _ (c.in_err-begin.ensures.writes _) c.from_residual.ensures.1

pub returns-in_err-put_transfer-clause-writes : goal.returns-in_err-put_transfer-clause-writes
returns-in_err-put_transfer-clause-writes g c = transfer_then c.args.self.now c.begin.new.self _ _ _
    (λ p. to_product (tape_block (planned p).transfer []) ∷ []) _ c.self.view_is (c.in_ok-begin.ensures.writes _)
    (stopped_alone link _ _ _ _ _ (c.in_err-put_transfer.ensures _ _) c.from_residual-in_err-put_transfer.ensures.1)

pub returns-clause-writes : goal.returns-clause-writes
returns-clause-writes g c =
    let done : LinkDone = record { messages = c.messages.result } in
    transfer_then c.args.self.now c.begin.new.self _ _ _
    (λ p. to_product (tape_block (planned p).transfer []) ∷ []) (Ok done) c.self.view_is (c.in_ok-begin.ensures.writes _)
    (c.in_ok-put_transfer.ensures _ _)

pub returns-clause-count : goal.returns-clause-count
returns-clause-count g c = c.messages.ensures
    ∙ ap (λ t. t.messages) (reporting_after c.args.self.now c.begin.new.self c.self.view_is
    (c.in_ok-begin.ensures.writes no_output).1)

use Rattle.std.proofs.Common.{◌∙◌, sym, refl}
use Rattle.m11_link.proofs.Entering.{block_none, block_some}
use Rattle.m11_link_layout.specs.declared.fault.LinkFault.TheVariants.{NoMemory}
use Rattle.m11_link.specs.Outputs.{link}
use Rattle.m11_base_writes.proofs.Writing.{gains_nothing, refused_first}
use Rattle.m11_link.proofs.held.HeldText.put.Goals as goal

pub returns-then-is_empty : goal.returns-then-is_empty
returns-then-is_empty g c = λ map messages. rw (sym c.self.view_is)
    (rw (block_none c.self.inside.address c.self.inside.bytes.items (sym c.is_empty.ensures ∙ c.if-is_empty.true))
    (gains_nothing link _))

pub returns-in_err-block : goal.returns-in_err-block
returns-in_err-block g c = λ map messages. refused_first link _ _ NoMemory _ refl c.from_residual.ensures.1

pub returns : goal.returns
returns g c = λ map messages. rw (sym c.self.view_is)
    (rw (block_some c.self.inside.address c.self.inside.bytes.items (sym c.is_empty.ensures ∙ c.if-is_empty.false))
    (rw (c.as_slice-2.ensures.value, c.in_ok-block.ensures.bytes, c.as_slice.ensures.value) at (c.put_product.ensures map messages)))

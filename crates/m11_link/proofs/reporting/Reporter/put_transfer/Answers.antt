use Rattle.std.proofs.Common.{sym, refl}
use Rattle.m11_link_layout.specs.declared.fault.LinkFault.TheVariants.{NoMemory}
use Rattle.m11_link.specs.Outputs.{link}
use Rattle.m11_base_writes.proofs.Writing.{refused_first}
use Rattle.m11_link.proofs.reporting.Reporter.put_transfer.Goals as goal

pub returns-in_err-block : goal.returns-in_err-block
returns-in_err-block g c = λ map messages. refused_first link _ _ NoMemory _ refl c.from_residual.ensures.1

pub returns : goal.returns
returns g c = λ map messages. rw (sym c.self.view_is)
    (rw (c.as_slice.ensures.value, c.in_ok-block.ensures.bytes, c.transfer.ensures) at (c.put_product.ensures map messages))

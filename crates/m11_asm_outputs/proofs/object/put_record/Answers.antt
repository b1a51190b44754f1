use Rattle.std.proofs.Common.{refl}
use Rattle.m11_asm_faults.specs.declared.fault.AsmFault.TheVariants.{NoMemory}
use Rattle.m11_asm_outputs.specs.Outputs.{assembly}
use Rattle.m11_base_writes.proofs.Writing.{refused_first}
use Rattle.m11_asm_outputs.proofs.object.put_record.Goals as goal

pub returns-in_err-block : goal.returns-in_err-block
returns-in_err-block g c = λ listing messages. refused_first assembly _ _ NoMemory _ refl c.from_residual.ensures.1

pub returns : goal.returns
returns g c = λ listing messages. rw (c.as_slice-2.ensures.value, c.in_ok-block.ensures.bytes, c.as_slice.ensures.value)
    at (c.put_product.ensures listing messages)

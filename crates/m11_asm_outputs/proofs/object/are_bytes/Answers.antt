use Rattle.m11_obj.proofs.RecordsBack.{all_bytes}
use Rattle.m11_asm_outputs.proofs.object.are_bytes.Goals as goal

pub returns : goal.returns
returns c = all_bytes c.args.bytes.now c.type_inv.bytes

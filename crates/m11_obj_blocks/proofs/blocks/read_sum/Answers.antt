use Rattle.std.proofs.Common.{refl}
use Rattle.std.proofs.lemmas.Result.{err_from_is_err_and}
use Rattle.m11_obj_blocks.specs.Blocks.{summed}
use Rattle.m11_obj_blocks.proofs.BlockParts.{first_missing}
use Rattle.m11_obj_blocks.proofs.blocks.read_sum.Goals as goal

pub returns-in_err-byte : goal.returns-in_err-byte
returns-in_err-byte g c =
    let p = err_from_is_err_and c.from_residual.result c.from_residual.ensures.1 in
    rw (p.1, p.2) (first_missing (summed c.args.content.now.items) _ _ _ c.in_err-byte.ensures refl)

use Rattle.std.proofs.Common.{arith}
use Rattle.std.proofs.lemmas.Result.{IfOk-weaker}
use Rattle.m11_obj_blocks.proofs.TapeFrames.{written_again}
use Rattle.m11_obj_blocks.proofs.tapes.tape_block.Goals as goal

pub returns-clause-again : goal.returns-clause-again
returns-clause-again c =
    IfOk-weaker c.summed_bytes.result _ _
    (λ v is rest. written_again c.args.address c.args.bytes.now (omega arith) c.requires.some c.requires.fits _
    (rw c.header.ensures at is) rest)
    c.summed_bytes.ensures.bytes

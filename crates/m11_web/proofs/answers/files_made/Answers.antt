use Rattle.std.proofs.Common.{arith}
use Rattle.m11_web.proofs.BlocksRead.{file_put}
use Rattle.m11_web.proofs.answers.files_made.Goals as goal

pub files-preserved : goal.files-preserved
files-preserved c =
    file_put _ _ c.file-item.result _ _ _ _ _ (omega arith) c.file-item.is c.files.invariant c.in_ok-put_block.ensures c.in_ok-put_block-2.ensures
    c.as_bytes.ensures.value c.bytes_of.ensures

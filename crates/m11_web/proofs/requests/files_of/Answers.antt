use Rattle.std.proofs.Common.{arith}
use Rattle.std.proofs.lemmas.Bool.Decides.{nat_tests}
use Rattle.m11_web.proofs.BlocksRead.{ends, file_read}
use Rattle.m11_web.proofs.requests.files_of.Goals as goal

pub files-preserved : goal.files-preserved
files-preserved c =
    file_read _ _ c.in_ok-file_of.field-0 _ _ _ _ _ _ c.files.invariant c.in-Some.ensures c.in-Some-first_block.ensures
    c.in_ok-file_of.ensures.path c.in_ok-file_of.ensures.bytes c.in_ok-push.ensures.items

pub returns : goal.returns
returns c = ends _ _ _ c.files.invariant (grind (arith, nat_tests))

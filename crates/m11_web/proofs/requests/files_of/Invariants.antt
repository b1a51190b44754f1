use Rattle.std.proofs.Common.{List, ◌++◌, length}
use Rattle.m11_base.specs.Devices.{Bytes}
use Rattle.m11_web.specs.Blocks.{AreBlocks}
use Rattle.m11_web.specs.Requests.{parts}
use Rattle.m11_web.proofs.requests.files_of.Given as goal

-- whatever blocks the rest is, all bytes are those of the files and then these
abbrev pub invariant-files : goal.invariant-files
invariant-files l = (more : List Bytes) → AreBlocks more l.rest → AreBlocks (parts l.files.items ++ more) l.bytes

abbrev pub decreases-files : goal.decreases-files
decreases-files l = length l.rest

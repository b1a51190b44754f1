use Rattle.std.proofs.Common.{List, ◌++◌, length, map}
use Rattle.std.specs.Prelude.{string_bytes}
use Rattle.m11_base.specs.Devices.{Bytes}
use Rattle.m11_web.specs.Blocks.{AreBlocks}
use Rattle.m11_web.proofs.requests.words_of.Given as goal

-- whatever blocks the rest is, all bytes are those of the words and then these
abbrev pub invariant-words : goal.invariant-words
invariant-words l = (more : List Bytes) → AreBlocks more l.rest → AreBlocks (map string_bytes l.words.items ++ more) l.bytes

abbrev pub decreases-words : goal.decreases-words
decreases-words l = length l.rest

use Rattle.std.proofs.Common.{◌≡◌, ◌%◌, take, sum}
use Rattle.m11_obj_blocks.proofs.frames.sum_of.Given as goal

abbrev pub invariant-loop-byte : goal.invariant-loop-byte
invariant-loop-byte l = l.total ≡ sum (take l.byte-index l.bytes) % 256

use Rattle.std.proofs.Common.{length}
use Rattle.m11_dump_source.proofs.labels.+is_padded.Given as goal

abbrev pub decreases-is_padded : goal.decreases-is_padded
decreases-is_padded l = length l.characters.now

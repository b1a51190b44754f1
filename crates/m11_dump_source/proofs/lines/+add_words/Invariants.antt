use Rattle.std.proofs.Common.{length}
use Rattle.m11_dump_source.proofs.lines.+add_words.Given as goal

abbrev pub decreases-add_words : goal.decreases-add_words
decreases-add_words l = length l.bytes.now

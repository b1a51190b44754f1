use Rattle.std.proofs.Common.{◌≡◌, ◌++◌, ◌-◌, ◌≤◌, drop, length}
use Rattle.m11_dump.specs.Words.{words_from}
use Rattle.m11_dump.proofs.words.put_words.Given as goal

abbrev pub invariant-words : goal.invariant-words
invariant-words l = record {
  within : l.index ≤ length l.bytes;
  leads : l.text.items ++ words_from l.address l.index (drop l.index l.bytes)
      ≡ l.initial.text.items ++ words_from l.address 0 l.bytes;
}

abbrev pub decreases-words : goal.decreases-words
decreases-words l = length l.bytes - l.index

use Rattle.std.proofs.Common.{◌≡◌, length}
use Rattle.m11_dump_source.specs.Labels.{kept_after, kept_of}
use Rattle.m11_dump_source.proofs.labels.kept_of.Given as goal

abbrev pub invariant-symbols : goal.invariant-symbols
invariant-symbols l = kept_after l.kept.items l.rest ≡ kept_of l.symbols

abbrev pub decreases-symbols : goal.decreases-symbols
decreases-symbols l = length l.rest

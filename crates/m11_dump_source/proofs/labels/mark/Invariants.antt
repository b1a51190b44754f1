use Rattle.std.proofs.Common.{◌≡◌, ℕ, ◌||◌, false, length, slice_index_or}
use Rattle.m11_dump_source.specs.Labels.{is_among}
use Rattle.m11_dump_source.proofs.labels.mark.Given as goal

abbrev pub invariant-addresses : goal.invariant-addresses
invariant-addresses l = record {
  long : length l.marks.items ≡ 65536;
  marks : (at : ℕ) → (slice_index_or l.marks.items at false || is_among l.rest at)
      ≡ (slice_index_or l.initial.marks.items at false || is_among l.addresses at);
}

abbrev pub decreases-addresses : goal.decreases-addresses
decreases-addresses l = length l.rest

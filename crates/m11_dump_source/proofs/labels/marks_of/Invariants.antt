use Rattle.std.proofs.Common.{◌≡◌, ℕ, ◌||◌, false, drop, length, slice_index_or}
use Rattle.std.specs.List.{flat_map}
use Rattle.m11_dump_source.specs.Labels.{addresses_in, is_among, targets}
use Rattle.m11_dump_source.proofs.labels.marks_of.Given as goal

abbrev pub invariant-lines : goal.invariant-lines
invariant-lines l = record {
  long : length l.marks.items ≡ 65536;
  marks : (at : ℕ) → (slice_index_or l.marks.items at false || is_among (flat_map addresses_in (drop l.line-index l.lines)) at)
      ≡ is_among (targets l.start l.lines) at;
}

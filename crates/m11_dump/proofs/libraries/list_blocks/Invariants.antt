use Rattle.std.proofs.Common.{◌≡◌, ℕ, List, false}
use Rattle.m11_obj_blocks.specs.Limited.{most_bytes, position}
use Rattle.m11_base_writes.specs.States.{output_of}
use Rattle.m11_dump.proofs.Listing.{Listing}
use Rattle.m11_dump.proofs.libraries.list_blocks.Given as goal

abbrev pub invariant-reading : goal.invariant-reading
invariant-reading g l = record {
  reads : l.reader.has_failed ≡ false;
  contents : List (List ℕ);
  listing : Listing l.fn.first l.stage (position (g.F.Feed.text l.initial.feed) (g.F.Feed.faults l.initial.feed) most_bytes)
      (position (g.F.Feed.text l.feed) (g.F.Feed.faults l.feed) l.reader.room)
      (output_of g.S.Sink l.initial.sink) (output_of g.S.Sink l.sink) l.blocks contents;
}

abbrev pub decreases-reading : goal.decreases-reading
decreases-reading g l = l.reader.room

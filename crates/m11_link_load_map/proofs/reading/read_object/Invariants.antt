use Rattle.std.proofs.Common.{◌≡◌, ℕ, List, false}
use Rattle.m11_link_modules.specs.Parts.{Part}
use Rattle.m11_link_load_map.specs.Reading.{NotedAfter}
use Rattle.m11_link_load_map.proofs.ReadOn.{Seen}
use Rattle.m11_link_load_map.proofs.reading.read_object.Given as goal

abbrev pub invariant-items : goal.invariant-items
invariant-items g l = record {
  reads : l.reader.has_failed ≡ false;
  seen : (bottom : ℕ) (before : List Part) → NotedAfter bottom before l.initial.layout l.initial.noted.items
      → Seen (g.F.Feed.text l.initial.feed) (g.F.Feed.text l.feed) (g.F.Feed.faults l.initial.feed)
      (g.F.Feed.faults l.feed) l.reader.room bottom before l.layout l.noted.items;
}

abbrev pub decreases-items : goal.decreases-items
decreases-items g l = l.reader.room

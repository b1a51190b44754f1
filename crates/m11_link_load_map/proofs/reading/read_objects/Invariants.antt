use Rattle.std.proofs.Common.{◌≡◌, ℕ, List}
use Rattle.m11_link_modules.specs.Parts.{Part}
use Rattle.m11_link_load_map.specs.Reading.{NotedBetween}
use Rattle.m11_link_load_map.proofs.ReadOn.{SeenAll}
use Rattle.m11_link_load_map.proofs.reading.read_objects.Given as goal

abbrev pub invariant-feeds : goal.invariant-feeds
invariant-feeds g l = record {
  counted : l.index ≡ l.feed-index;
  seen : (bottom : ℕ) (before : List Part) → NotedBetween bottom before l.initial.layout l.initial.noted.items
      → SeenAll g.F.Feed.text g.F.Feed.faults l.initial.feeds l.feeds l.feed-index bottom before l.layout l.noted.items;
}

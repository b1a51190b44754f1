use Rattle.std.proofs.Common.{◌≡◌, ℕ, List, false}
use Rattle.m11_link_modules.specs.Parts.{Part}
use Rattle.m11_link_layout.specs.Layout.{LayoutAfter}
use Rattle.m11_link.proofs.FirstRead.{Laid}
use Rattle.m11_link.proofs.run.lay_out_object.Given as goal

abbrev pub invariant-items : goal.invariant-items
invariant-items g l = record {
  reads : l.reader.has_failed ≡ false;
  laid : (bottom : ℕ) (before : List Part) → LayoutAfter bottom before l.initial.layout
      → Laid (g.F.Feed.text l.initial.feed) (g.F.Feed.text l.feed) (g.F.Feed.faults l.initial.feed)
      (g.F.Feed.faults l.feed) l.reader.room bottom before l.layout;
}

abbrev pub decreases-items : goal.decreases-items
decreases-items g l = l.reader.room

use Rattle.std.proofs.Common.{ℕ, List}
use Rattle.m11_link_modules.specs.Parts.{Part}
use Rattle.m11_link.specs.FirstPass.{LayoutBetween}
use Rattle.m11_link.proofs.FirstRead.{LaidAll}
use Rattle.m11_link.proofs.run.lay_out.Given as goal

abbrev pub invariant-feeds : goal.invariant-feeds
invariant-feeds g l = (bottom : ℕ) (before : List Part) → LayoutBetween bottom before l.initial.layout
    → LaidAll g.F.Feed.text g.F.Feed.faults l.initial.feeds l.feeds l.feed-index bottom before l.layout

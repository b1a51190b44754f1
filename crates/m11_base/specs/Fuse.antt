-- A feed and a sink, each behind a fuse. A fuse passes on a number of calls and then blows: from then on each call fails. (This project's
-- own.)
use Rattle.std.specs.Prelude.{◌≡◌, ℕ, Option, Result, MatchResult}
use Rattle.m11_base.specs.Devices.{Rises}
use Rattle.m11_base.specs.Feed.{Text, Gives}

-- the feed, the number of calls still to be passed on to it, and how often a call of the fuse failed
pub record FusedFeed (F : Type 0) : Type 0 where
  pub feed : F
  pub calls : ℕ
  pub faults : ℕ

-- what one call of a feed returned agrees with the feed's text and its count of failures before and after the call
abbrev pub GivesAndCounts : {E : Type 0} → Option Text → Option Text → ℕ → ℕ → Result (Option ℕ) E → Type 0
GivesAndCounts old new old_count new_count result = Gives old new old_count result
    × MatchResult result (λ _. new_count ≡ old_count) (λ _. Rises old_count new_count)

-- the sink, the number of calls still to be passed on to it, the most bytes that one call passes on, and how often a call of the fuse
-- failed or accepted none of the bytes offered to it
pub record FusedSink (S : Type 0) : Type 0 where
  pub sink : S
  pub calls : ℕ
  pub most : ℕ
  pub faults : ℕ

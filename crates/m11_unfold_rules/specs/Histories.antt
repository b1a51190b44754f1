-- Relations between two unfoldings. (This project's own.)
use Rattle.std.specs.Prelude.{◌≡◌, List, ◌∷◌, ◌++◌, map}
use Rattle.m11_scan.specs.Line.{SourceLine}
use Rattle.m11_scan_expressions.specs.Expressions.{KnownSymbols}
use Rattle.m11_unfold_rules.specs.Stages.{Stage, line_left}
use Rattle.m11_unfold_rules.specs.Taking.{Live}
use Rattle.m11_unfold_rules.specs.Unfolding.{UnfoldedLine, Leads}

-- what is known at each line is what `known_by` yields for the lines before it and the line itself
abbrev pub IsKnownBy : (List UnfoldedLine → Live → KnownSymbols) → List UnfoldedLine → Type 0
IsKnownBy known_by done = (earlier later : List UnfoldedLine) (one : UnfoldedLine) → done ≡ earlier ++ one ∷ later → one.known ≡ known_by earlier one.live

-- the unfolding with the lines `all` is the one with the lines `done`, continued from the last stage of `done` by any number of lines
pub record GoesOn (done : List UnfoldedLine) (stage : Stage) (all : List UnfoldedLine) (after : Stage) : Type 0 where
  pub more : List UnfoldedLine
  pub whole : all ≡ done ++ more
  pub leads : Leads stage more after

-- a stage with further lines of the source appended
abbrev pub with_more : List SourceLine → Stage → Stage
with_more more stage = record stage { left = stage.left ++ map line_left more }

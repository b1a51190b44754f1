-- The stage that the lines of a shape lead to. (MACRO-11 Language Reference Manual, "Macro directives" and "Conditional assembly
-- directives".)
use Rattle.std.specs.Prelude.{◌≡◌, true, false, List, ◌++◌, map, Option}
use Rattle.m11_scan.specs.Line.{SourceLine}
use Rattle.m11_unfold_bodies.specs.Conditions.{OpenConditions, is_live_inside}
use Rattle.m11_unfold_bodies.specs.Left.{RemainingItem, marks}
use Rattle.m11_unfold_rules.specs.Stages.{Opening, Stage, line_left}
use Rattle.m11_unfold_rules.specs.Taking.{NothingLeft, move}
use Rattle.m11_unfold_rules.specs.Unfolding.{UnfoldedLine, Leads, Unfolds}
use Rattle.m11_unfold_laws.specs.Levels.{Level, Situation, beginning, source_level, stage_of}
use Rattle.m11_unfold_laws.specs.Shapes.{Ending, GoesOn, Stops, Ends, Shape}

-- what is left belongs to a level: the level's expansions are open, and lines in its conditions are live
pub record IsAtLevel (level : Level) (left : List RemainingItem) : Type 0 where
  pub around : marks left ≡ level.around
  pub is_live : is_live_inside level.entered ≡ true

-- the stage in which these lines come next, and then what is left
abbrev pub before_lines : Level → Situation → List SourceLine → List RemainingItem → Stage
before_lines level situation lines left = stage_of level situation (map line_left lines ++ left)

-- this is the stage after lines whose ending is `Stops`; some conditions and a body may be open
pub record IsStopped (situation : Situation) (left : List RemainingItem) (stage : Stage) : Type 0 where
  pub conditions : OpenConditions
  pub opening : Option Opening
  pub is : stage ≡ record {
    left = left;
    conditions = conditions;
    opening = opening;
    macros = situation.macros;
    defined_bytes = situation.defined_bytes;
    created = situation.created;
    taken = situation.taken;
    has_ended = false;
  }

-- this is the stage after lines with this ending
abbrev pub Arrived : Ending → Level → Situation → List RemainingItem → Stage → Type 0
Arrived GoesOn level after left stage = stage ≡ stage_of level after left
Arrived Stops level after left stage = IsStopped after left stage
Arrived Ends level after left stage = stage.has_ended ≡ true

-- these are the live lines that follow a stage, up to and including `.END`
pub record IsEndedAfter (before : Stage) (gives : List UnfoldedLine) : Type 0 where
  pub stage : Stage
  pub leads : Leads before gives stage
  pub ended : stage.has_ended ≡ true

-- these are all the live lines of a source
pub record HasLiveLines (source : List SourceLine) (gives : List UnfoldedLine) : Type 0 where
  pub stage : Stage
  pub unfolds : Unfolds source gives stage
  pub rests : move stage ≡ NothingLeft

-- the first of two lists of live lines begins with the second
pub record BeginWith (gives done : List UnfoldedLine) : Type 0 where
  pub more : List UnfoldedLine
  pub whole : gives ≡ done ++ more

-- a source has a shape with these live lines
pub record HasShape (source : List SourceLine) (gives : List UnfoldedLine) : Type 0 where
  pub after : Situation
  pub ending : Ending
  pub shape : Shape source_level beginning source gives after ending

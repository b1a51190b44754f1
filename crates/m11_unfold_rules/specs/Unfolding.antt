-- The unfolding of a source: its live lines, one after another. (MACRO-11 Language Reference Manual, "Macro directives" and
-- "Conditional assembly directives".) Each step rewrites what is left to unfold; it makes no difference in what pieces the source
-- arrives.
use Rattle.std.specs.Prelude.{◌≡◌, ℕ, Bool, List, [], ◌∷◌, ◌++◌, Option, None}
use Rattle.m11_scan.specs.Line.{SourceLine}
use Rattle.m11_scan_expressions.specs.Expressions.{KnownSymbols}
use Rattle.m11_scan_expressions.specs.Remarks.{Remarks}
use Rattle.m11_unfold_bodies.specs.Left.{argument_count}
use Rattle.m11_unfold_rules.specs.Acting.{act, act_fault}
use Rattle.m11_unfold_rules.specs.Limits.{next_fault}
use Rattle.m11_unfold_rules.specs.Stages.{Stage, start}
use Rattle.m11_unfold_rules.specs.Taking.{Live, Passes, Gives, move}

-- a live line, what was known when its operator was executed, the operator's result, and the number of actuals of the innermost macro call
-- around the line, if there is one
pub record UnfoldedLine : Type 0 where
  pub live : Live
  pub known : KnownSymbols
  pub is_own : Bool
  pub remarks : Remarks
  pub arguments : Option ℕ

abbrev pub given : KnownSymbols → Live → Stage → UnfoldedLine
given known live stage = record {
  live = live;
  known = known;
  is_own = (act known stage live.line.text).is_own;
  remarks = (act known stage live.line.text).remarks;
  arguments = argument_count stage.left;
}

-- one stage leads to another: between them these lines become live, the operator of each is executed, and no limit is exceeded
pub data Leads (before : Stage) : List UnfoldedLine → Stage → Type 0 where
  Stays : Leads before [] before
  -- something is read, and no line becomes live
  Passing : (done : List UnfoldedLine) (stage after : Stage) → Leads before done stage → next_fault stage ≡ None
      → move stage ≡ Passes after → Leads before done after
  -- a line becomes live, and its operator is executed with what is known then
  Giving : (done : List UnfoldedLine) (stage after : Stage) (live : Live) (known : KnownSymbols) → Leads before done stage
      → next_fault stage ≡ None → move stage ≡ Gives live after → act_fault after live.line.text ≡ None
      → Leads before (done ++ given known live after ∷ []) (act known after live.line.text).after

-- these lines of a source become live up to this stage
abbrev pub Unfolds : List SourceLine → List UnfoldedLine → Stage → Type 0
Unfolds source done stage = Leads (start source) done stage

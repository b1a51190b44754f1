-- Unfoldings that end at a limit. (This project's own.)
use Rattle.std.specs.Prelude.{◌≡◌, List, ◌++◌, Some, None}
use Rattle.m11_unfold_rules.specs.Acting.{act_fault}
use Rattle.m11_unfold_rules.specs.Limits.{next_fault}
use Rattle.m11_unfold_rules.specs.Stages.{Stage}
use Rattle.m11_unfold_rules.specs.Taking.{Gives, Live, move}
use Rattle.m11_unfold_rules.specs.Unfolding.{UnfoldedLine, Leads}
use Rattle.m11_unfold_rules.specs.declared.fault.UnfoldFault.{UnfoldFault}

-- the next move exceeds a limit, or the operator of the line that becomes live by this move does
pub data PassesLimit (stage : Stage) : Type 0 where
  Taking : (fault : UnfoldFault) → next_fault stage ≡ Some fault → PassesLimit stage
  Acting : (fault : UnfoldFault) (live : Live) (after : Stage) → next_fault stage ≡ None → move stage ≡ Gives live after
      → act_fault after live.line.text ≡ Some fault → PassesLimit stage

-- a limit is exceeded after some, none or all of these lines
pub record IsCutShort (before : Stage) (gives : List UnfoldedLine) : Type 0 where
  pub first : List UnfoldedLine
  pub more : List UnfoldedLine
  pub whole : gives ≡ first ++ more
  pub stage : Stage
  pub leads : Leads before first stage
  pub passes : PassesLimit stage

-- The limits on the state of an unfolding. (This project's own.)
use Rattle.std.specs.Prelude.{ℕ, ◌≤◌, ◌+◌, List, [], ◌∷◌, length}
use Rattle.m11_unfold_bodies.specs.Conditions.{most_conditions}
use Rattle.m11_unfold_bodies.specs.Left.{conditions_open, depth, marks, most_expansions}
use Rattle.m11_unfold_bodies.specs.declared.mark.Mark.{Mark}
use Rattle.m11_unfold_rules.specs.Limits.{bytes_of, most_bytes, most_lines, most_macros}
use Rattle.m11_unfold_rules.specs.Stages.{Stage}

-- the number of `.IF`s open among skipped lines, in all the conditions that the ends of open expansions restore
abbrev pub nested_in : List Mark → ℕ
nested_in [] = 0
nested_in (mark ∷ marks) = nested_in marks + mark.conditions.nested

-- no limit is exceeded, and no more `.IF`s are open among skipped lines than lines were read
pub record IsKept (stage : Stage) : Type 0 where
  pub lines : stage.taken ≤ most_lines
  pub macros : length stage.macros ≤ most_macros
  pub bytes : bytes_of stage ≤ most_bytes
  pub expansions : depth stage.left ≤ most_expansions
  pub conditions : length stage.conditions.entered + conditions_open stage.left ≤ most_conditions
  pub nested : stage.conditions.nested + nested_in (marks stage.left) ≤ stage.taken

-- The open conditions of one expansion, or of the source outside all expansions. (MACRO-11 Language Reference Manual, "Conditional
-- assembly block directives" and "Subconditional assembly block directives". This project's own: at most 32 conditions may be open, in
-- all expansions and outside them together; an expansion can't switch or close a condition opened outside it, and its own end with it.)
use Rattle.std.specs.Prelude.{ℕ, ◌+◌, ◌-◌, Bool, true, false, not, ◌||◌, ◌==◌, ◌&&◌, if◌then◌else◌, List, [], ◌∷◌, length}
use Rattle.m11_unfold_bodies.specs.declared.conditions.OpenCondition.{OpenCondition}
use Rattle.m11_unfold_bodies.specs.declared.conditions.Part.{Part}
use Rattle.m11_unfold_bodies.specs.declared.conditions.Part.TheVariants.{False, True, Both}

-- the open conditions, the innermost first; the number of `.IF`s open among skipped lines; and whether a condition beyond the
-- limit is being skipped
pub record OpenConditions : Type 0 where
  pub entered : List OpenCondition
  pub nested : ℕ
  pub is_past : Bool

abbrev pub no_conditions : OpenConditions
no_conditions = record { entered = []; nested = 0; is_past = false }

-- the most conditions that may be open
abbrev pub most_conditions : ℕ
most_conditions = 32

-- whether the lines directly inside the innermost condition, which comes first, are live
abbrev pub is_live_inside : List OpenCondition → Bool
is_live_inside [] = true
is_live_inside (condition ∷ outer) = condition.is_live

abbrev pub is_skipping : OpenConditions → Bool
is_skipping conditions = conditions.is_past || not (is_live_inside conditions.entered)

-- the conditions after an `.IF` among skipped lines, and after its `.ENDC`
abbrev pub nested : OpenConditions → OpenConditions
nested conditions = record conditions { nested = conditions.nested + 1 }

abbrev pub unnested : OpenConditions → OpenConditions
unnested conditions = record conditions { nested = conditions.nested - 1 }

-- the conditions after one more is opened: its lines are live if it is true
abbrev pub entering : Bool → OpenConditions → OpenConditions
entering holds conditions =
    record conditions { entered = record { holds = holds; is_live = holds } ∷ conditions.entered }

-- the conditions while one beyond the limit is skipped
abbrev pub past : OpenConditions → OpenConditions
past conditions = record conditions { is_past = true }

-- whether the part after `.IFF`, `.IFT` or `.IFTF` is live; the flag says whether the condition is true
abbrev pub is_live_in : Part → Bool → Bool
is_live_in False holds = not holds
is_live_in True holds = holds
is_live_in Both holds = true

-- the conditions after the innermost one, if any, has switched to a part
abbrev pub switched : Part → OpenConditions → OpenConditions
switched part conditions = record conditions {
  entered = elim conditions.entered [
    | [] ↦ []
    | condition ∷ outer ↦ record { holds = condition.holds; is_live = is_live_in part condition.holds } ∷ outer
  ];
}

-- the conditions after `.ENDC`, which closes the condition beyond the limit, if there is one, or else the innermost one, if any
abbrev pub closed : OpenConditions → OpenConditions
closed conditions = record conditions {
  entered = if conditions.is_past then conditions.entered
      else (elim conditions.entered [ [] ↦ [] | condition ∷ outer ↦ outer ]);
  is_past = false;
}

-- whether there is no condition for an `.ENDC` to close
abbrev pub has_none : OpenConditions → Bool
has_none conditions = not conditions.is_past && length conditions.entered == 0

-- The level of nesting of lines, the state that the lines before them leave, and live lines. (MACRO-11 Language Reference Manual,
-- "Macro directives" and "Conditional assembly directives".)
use Rattle.std.specs.Prelude.{ℕ, ◌+◌, Bool, true, false, nat_lt, List, [], ◌∷◌, length, Option, None}
use Rattle.m11_base.specs.Devices.{Bytes}
use Rattle.m11_base.specs.Rad50.{Name}
use Rattle.m11_scan.specs.Line.{SourceLine}
use Rattle.m11_scan_expressions.specs.Expressions.{KnownSymbols}
use Rattle.m11_unfold_rules.specs.Filling.{first_created}
use Rattle.m11_scan_expressions.specs.Remarks.{Remarks, no_remarks}
use Rattle.m11_unfold_bodies.specs.Bodies.{size_of}
use Rattle.m11_unfold_bodies.specs.Conditions.{OpenConditions, most_conditions}
use Rattle.m11_unfold_bodies.specs.Left.{RemainingItem, conditions_in, count_in, has_mark}
use Rattle.m11_unfold_bodies.specs.declared.conditions.OpenCondition.{OpenCondition}
use Rattle.m11_unfold_bodies.specs.declared.mark.Mark.{Mark}
use Rattle.m11_unfold_rules.specs.declared.macros.MacroFormal.{MacroFormal}
use Rattle.m11_unfold_rules.specs.Acting.{Operation, operation}
use Rattle.m11_unfold_rules.specs.Macros.{defined}
use Rattle.m11_unfold_rules.specs.Stages.{Macro, Stage}
use Rattle.m11_unfold_rules.specs.Unfolding.{UnfoldedLine}

-- the level of nesting of lines
pub record Level : Type 0 where
  -- the expansions open around the lines, the innermost first
  pub around : List Mark
  -- the conditions of the innermost expansion that are open around the lines, the innermost first
  pub entered : List OpenCondition

-- the state that the earlier lines leave
pub record Situation : Type 0 where
  -- the macros by their names
  pub macros : List (Name × Macro)
  -- the number of bytes in the bodies of macros, including replaced ones
  pub defined_bytes : ℕ
  -- the number of the next created local symbol
  pub created : ℕ
  -- the number of lines read
  pub taken : ℕ

-- the level of a source, outside all expansions and conditions; and the situation before its first line, with no macro defined
abbrev pub source_level : Level
source_level = record { around = []; entered = [] }

abbrev pub beginning : Situation
beginning = record { macros = []; defined_bytes = 0; created = first_created; taken = 0 }

-- the situation after this many more lines are read
abbrev pub counting : ℕ → Situation → Situation
counting lines situation = record situation { taken = situation.taken + lines }

-- the situation after a macro is defined or redefined
abbrev pub defining : Name → List MacroFormal → List Bytes → Situation → Situation
defining name formals body situation = record situation {
  macros = defined situation.macros name (record { formals = formals; body = body });
  defined_bytes = situation.defined_bytes + size_of body;
}

-- ---- conditions

-- conditions of which just these are open: no `.IF` is open among skipped lines, and no condition beyond the limit is being skipped
abbrev pub only_entered : List OpenCondition → OpenConditions
only_entered entered = record { entered = entered; nested = 0; is_past = false }

-- the level inside a condition: whether the condition is true, and whether its current part is live
abbrev pub within_condition : Bool → Bool → Level → Level
within_condition holds is_live level =
    record level { entered = record { holds = holds; is_live = is_live } ∷ level.entered }

-- whether one more condition may be opened within the limit of 32
abbrev pub has_condition_left : Level → Bool
has_condition_left level = nat_lt (length level.entered + conditions_in level.around) most_conditions

-- ---- expansions

-- the end of an expansion, with the conditions around it, and the level inside, which begins without conditions
abbrev pub mark_at : Level → Option ℕ → ℕ → Mark
mark_at level arguments bytes = record { arguments = arguments; bytes = bytes; conditions = only_entered level.entered }

abbrev pub within_expansion : Option ℕ → ℕ → Level → Level
within_expansion arguments bytes level = record { around = mark_at level arguments bytes ∷ level.around; entered = [] }

-- ---- lines

-- the operation of a line: the call of a defined macro; or else a directive for conditions, repeats or macros, or `.END`; or neither
abbrev pub operation_at : Level → Situation → SourceLine → Operation
operation_at level situation line = operation (only_entered level.entered) situation.macros line.text

-- a live line that belongs to unfolding, with its flags and symbols
abbrev pub own_line : Level → KnownSymbols → SourceLine → Remarks → UnfoldedLine
own_line level known line remarks = record {
  live = record { line = line; is_expanded = has_mark level.around };
  known = known;
  is_own = true;
  remarks = remarks;
  arguments = count_in level.around;
}

-- any other live line
abbrev pub other_line : Level → KnownSymbols → SourceLine → UnfoldedLine
other_line level known line = record {
  live = record { line = line; is_expanded = has_mark level.around };
  known = known;
  is_own = false;
  remarks = no_remarks;
  arguments = count_in level.around;
}

-- the stage at a level and in a situation, with these items left
abbrev pub stage_of : Level → Situation → List RemainingItem → Stage
stage_of level situation left = record {
  left = left;
  conditions = only_entered level.entered;
  opening = None;
  macros = situation.macros;
  defined_bytes = situation.defined_bytes;
  created = situation.created;
  taken = situation.taken;
  has_ended = false;
}

-- A stage of an unfolding: the lines and the ends of expansions that are left, and the state of conditions, bodies and macros.
-- (MACRO-11 Language Reference Manual, "Macro definition", "Conditional assembly block directives" and "Automatic creation of
-- local symbols".)
use Rattle.std.specs.Prelude.{ℕ, Bool, false, List, [], map, Option, None}
use Rattle.m11_base.specs.Devices.{Bytes}
use Rattle.m11_base.specs.Rad50.{Name}
use Rattle.m11_scan.specs.Line.{SourceLine}
use Rattle.m11_unfold_rules.specs.Filling.{first_created}
use Rattle.m11_unfold_rules.specs.declared.macros.MacroFormal.{MacroFormal}
use Rattle.m11_unfold_bodies.specs.Bodies.{PartialBody}
use Rattle.m11_unfold_bodies.specs.Conditions.{OpenConditions, no_conditions}
use Rattle.m11_unfold_bodies.specs.Left.{RemainingItem, Line}

-- a macro: its formals, and the texts of its body's lines
pub record Macro : Type 0 where
  pub formals : List MacroFormal
  pub body : List Bytes

-- the purpose of a body
pub data Purpose : Type 0 where
  -- to define a macro with this name and these formals
  Defines : Name → List MacroFormal → Purpose
  -- to be repeated, with these formals and their actuals in each round
  Repeats : List Name → List (List Bytes) → Purpose
  -- to be discarded, since its `.MACRO` has no name
  Drops : Purpose

-- an open body: its purpose, and what was read of it so far
pub record Opening : Type 0 where
  pub purpose : Purpose
  pub taken : PartialBody

pub record Stage : Type 0 where
  -- the lines left, and the ends of open expansions
  pub left : List RemainingItem
  -- the conditions of the innermost expansion, or of the source if no expansion is open
  pub conditions : OpenConditions
  -- the body that the next lines belong to, if one is open
  pub opening : Option Opening
  -- the macros by their names, in the order of their first definitions
  pub macros : List (Name × Macro)
  -- the number of bytes in the bodies of macros, including replaced ones
  pub defined_bytes : ℕ
  -- the number of the next created local symbol
  pub created : ℕ
  -- the number of lines read
  pub taken : ℕ
  -- whether `.END` became live
  pub has_ended : Bool

abbrev pub line_left : SourceLine → RemainingItem
line_left line = Line line

-- the stage before the first line of a source
abbrev pub start : List SourceLine → Stage
start source = record {
  left = map line_left source;
  conditions = no_conditions;
  opening = None;
  macros = [];
  defined_bytes = 0;
  created = first_created;
  taken = 0;
  has_ended = false;
}

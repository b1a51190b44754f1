-- The lines that unfolding leaves unchanged, the lines with a directive for conditions, repeats or macros, and the exit from an expansion.
-- (MACRO-11 Language Reference Manual, "Source program format", ".MEXIT directive" and ".END directive".)
use Rattle.std.specs.Prelude.{◌≡◌, ℕ, true, false, List, [], ◌∷◌, ◌++◌, ◌+◌, length, map, None, ⊤}
use Rattle.m11_scan.specs.Line.{SourceLine}
use Rattle.m11_scan_expressions.specs.Expressions.{KnownSymbols}
use Rattle.m11_scan_expressions.specs.Remarks.{Remarks, no_remarks}
use Rattle.m11_unfold_rules.specs.declared.directives.Directive.{Directive}
use Rattle.m11_unfold_bodies.specs.Conditions.{is_skipping}
use Rattle.m11_unfold_bodies.specs.Left.{RemainingItem, Line, End, argument_count, is_expanding}
use Rattle.m11_unfold_bodies.specs.declared.mark.Mark.{Mark}
use Rattle.m11_unfold_rules.specs.Acting.{OwnDirective, Foreign, operation}
use Rattle.m11_unfold_rules.specs.Stages.{Stage, line_left}
use Rattle.m11_unfold_rules.specs.Unfolding.{UnfoldedLine}

-- the next line, if there is one, becomes live: lines aren't skipped, no body is open, and no `.END` became live
pub record IsLive (stage : Stage) : Type 0 where
  pub taking : is_skipping stage.conditions ≡ false
  pub no_body : stage.opening ≡ None
  pub going_on : stage.has_ended ≡ false

-- no operator of these lines is a macro, a directive for conditions, repeats or macros, or `.END`
abbrev pub AreForeign : Stage → List SourceLine → Type 0
AreForeign stage [] = ⊤
AreForeign stage (line ∷ lines) = (operation stage.conditions stage.macros line.text ≡ Foreign) × AreForeign stage lines

-- a live line that doesn't belong to unfolding; `left` is what is left to unfold after it
abbrev pub foreign_live_line : KnownSymbols → List RemainingItem → SourceLine → UnfoldedLine
foreign_live_line known left line = record {
  live = record { line = line; is_expanded = is_expanding left };
  known = known;
  is_own = false;
  remarks = no_remarks;
  arguments = argument_count left;
}

-- the stage before these lines
abbrev pub before_lines : Stage → List SourceLine → List RemainingItem → Stage
before_lines stage lines left = record stage { left = map line_left lines ++ left }

-- the stage after these lines
abbrev pub after_lines : Stage → List SourceLine → List RemainingItem → Stage
after_lines stage lines left = record stage { left = left; taken = stage.taken + length lines }

-- a line's operator is this directive, and the column is the one after its name
abbrev pub IsDirective : Stage → SourceLine → Directive → ℕ → Type 0
IsDirective stage line directive column = operation stage.conditions stage.macros line.text ≡ OwnDirective directive column

-- a live line that belongs to unfolding; `left` is what is left to unfold after it
abbrev pub own_live_line : KnownSymbols → List RemainingItem → SourceLine → Remarks → UnfoldedLine
own_live_line known left line remarks = record {
  live = record { line = line; is_expanded = is_expanding left };
  known = known;
  is_own = true;
  remarks = remarks;
  arguments = argument_count left;
}

-- the stage before a `.MEXIT`, with the lines after it in its expansion and the end of the expansion
abbrev pub before_exit : Stage → SourceLine → List SourceLine → Mark → List RemainingItem → Stage
before_exit stage line rest mark left = record stage { left = Line line ∷ map line_left rest ++ End mark ∷ left }

-- the stage after a `.MEXIT`: the lines after the expansion are left, with the conditions that were open around it
abbrev pub after_exit : Stage → Mark → List RemainingItem → Stage
after_exit stage mark left = record stage { left = left; conditions = mark.conditions; taken = stage.taken + 1 }

abbrev pub exit_live_line : KnownSymbols → Mark → List RemainingItem → SourceLine → Remarks → UnfoldedLine
exit_live_line known mark left line remarks = own_live_line known (End mark ∷ left) line remarks

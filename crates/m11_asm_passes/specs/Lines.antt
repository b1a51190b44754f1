-- The live lines of a source in one pass over it. Each line is read and unfolded completely before the next one is read; the
-- names known at a live line are those of the lines before it and its own labels. No line exceeds a limit. (MACRO-11 Language Reference
-- Manual, "Source program format", "Macro directives" and "Symbols and expressions".)
use Rattle.std.specs.Prelude.{◌≡◌, ℕ, false, List, [], ◌∷◌, ◌++◌, length, map, None}
use Rattle.m11_unfold_bodies.specs.Left.{Line}
use Rattle.m11_scan.specs.Line.{SourceLine}
use Rattle.m11_unfold_rules.specs.Acting.{act}
use Rattle.m11_unfold_rules.specs.Limits.{next_fault}
use Rattle.m11_unfold_rules.specs.Stages.{Stage, start}
use Rattle.m11_unfold_rules.specs.Taking.{Gives, Live, move}
use Rattle.m11_unfold_rules.specs.Unfolding.{UnfoldedLine, Leads}
use Rattle.m11_asm_rules.specs.Lines.{after_line}
use Rattle.m11_asm_rules.specs.Meanings.{Map}
use Rattle.m11_asm_rules.specs.SymbolUses.{symbol_uses}
use Rattle.m11_asm_rules.specs.Placements.{table_after}
use Rattle.m11_asm_rules.specs.Tables.{Table, first_table}
use Rattle.m11_asm_lines.specs.Counting.{with_counted}
use Rattle.m11_asm_lines.specs.declared.counting.Counting.{Counting}
use Rattle.m11_asm_passes.specs.Refusals.{given_by, line_fault}

-- a live line, and how many lines of the source were read when it became live
pub record NumberedLine : Type 0 where
  pub number : ℕ
  pub given : UnfoldedLine

abbrev pub numbered : ℕ → UnfoldedLine → NumberedLine
numbered number given = record { number = number; given = given }

abbrev pub givens : List NumberedLine → List UnfoldedLine
givens lines = map (λ line. line.given) lines

-- the table after some lines, and the names counted after them
abbrev pub table_at : Map → List NumberedLine → Table
table_at map lines = table_after map (givens lines)

abbrev pub counting_after : Map → Table → List UnfoldedLine → Counting → Counting
counting_after map table [] counting = counting
counting_after map table (given ∷ lines) counting =
    counting_after map (after_line map table given) lines (with_counted (symbol_uses table given) counting)

abbrev pub counting_at : Map → Counting → List NumberedLine → Counting
counting_at map counting lines = counting_after map first_table (givens lines) counting

-- the stage in which only this line of the source is left to unfold
abbrev pub with_line : SourceLine → Stage → Stage
with_line line stage = record stage { left = Line line ∷ [] }

-- the stage after unfolding has handled the operator of a live line
abbrev pub acted : Table → Live → Stage → Stage
acted table live stage = (act (given_by table live stage).known stage live.line.text).after

-- these are the live lines of a source up to a stage of its unfolding, under a map and with the names counted before the first line
pub data PassLines (map : Map) (counting : Counting) : List SourceLine → List NumberedLine → Stage → Type 0 where
  Begins : PassLines map counting [] [] (start [])
  -- the next line of the source is read if nothing is left to unfold and `.END` hasn't become live
  Reading : (source : List SourceLine) (lines : List NumberedLine) (stage : Stage) (line : SourceLine)
      → PassLines map counting source lines stage → stage.left ≡ [] → stage.has_ended ≡ false
      → PassLines map counting (source ++ line ∷ []) lines (with_line line stage)
  -- unfolding goes on, in moves by which no line becomes live
  Passing : (source : List SourceLine) (lines : List NumberedLine) (before after : Stage)
      → PassLines map counting source lines before → Leads before [] after → PassLines map counting source lines after
  -- a line becomes live, exceeds no limit, and is placed
  Placing : (source : List SourceLine) (lines : List NumberedLine) (before after : Stage) (live : Live)
      → PassLines map counting source lines before → next_fault before ≡ None → move before ≡ Gives live after
      → line_fault map (table_at map lines) (counting_at map counting lines) live after ≡ None
      → PassLines map counting source
      (lines ++ numbered (length source) (given_by (table_at map lines) live after) ∷ [])
      (acted (table_at map lines) live after)

-- The live lines of a pass, and those of the unfolding of a whole source. (MACRO-11 Language Reference Manual, "Macro directives" and
-- "Conditional assembly directives".)
use Rattle.std.specs.Prelude.{◌≡◌, List, [], ◌∷◌, None, ⊤}
use Rattle.m11_scan.specs.Line.{SourceLine}
use Rattle.m11_asm_passes.specs.Ends.{EndsAfter}
use Rattle.m11_asm_passes.specs.Lines.{NumberedLine, givens}
use Rattle.m11_asm_passes.specs.Refusals.{labels_fault, placing_fault}
use Rattle.m11_asm_rules.specs.Lines.{after_line}
use Rattle.m11_asm_rules.specs.Meanings.{Map}
use Rattle.m11_asm_rules.specs.SymbolUses.{symbol_uses}
use Rattle.m11_asm_rules.specs.Tables.{Table}
use Rattle.m11_asm_rules.specs.Unfolded.{AreLines}
use Rattle.m11_unfold_rules.specs.Stages.{Stage}
use Rattle.m11_unfold_rules.specs.Taking.{NothingLeft, move}
use Rattle.m11_unfold_rules.specs.Unfolding.{UnfoldedLine}
use Rattle.m11_asm_lines.specs.Counting.{with_counted}
use Rattle.m11_asm_lines.specs.declared.counting.Counting.{Counting}

-- these are all the live lines of a source under a map: nothing is read after them
pub record AreAllLines (map : Map) (source : List SourceLine) (gives : List UnfoldedLine) (stage : Stage) : Type 0 where
  pub are : AreLines map source gives stage
  pub rests : move stage ≡ NothingLeft

-- starting from this table and these counted names, no live line exceeds a limit on names, local symbols or sections
abbrev pub AreWithinLimits : Map → Table → Counting → List UnfoldedLine → Type 0
AreWithinLimits map table counting [] = ⊤
AreWithinLimits map table counting (given ∷ lines) =
    (labels_fault counting table given.live.line.text ≡ None) × (placing_fault map table counting given ≡ None)
    × AreWithinLimits map (after_line map table given) (with_counted (symbol_uses table given) counting) lines

-- a pass over a source reaches its end with these live lines
pub record EndsWith (map : Map) (counting : Counting) (all : List SourceLine) (gives : List UnfoldedLine) : Type 0 where
  pub source : List SourceLine
  pub lines : List NumberedLine
  pub stage : Stage
  pub ends : EndsAfter map counting all source lines stage
  pub are : givens lines ≡ gives

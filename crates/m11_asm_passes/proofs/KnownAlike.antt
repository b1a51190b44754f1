-- What is known at a live line from the lines before it is the same under every map.
use Rattle.std.proofs.Common.{◌≡◌, ◌∙◌, true, List, [], ◌∷◌, ◌++◌, refl, sym, ap}
use Rattle.m11_scan_expressions.specs.Expressions.{KnownSymbols}
use Rattle.m11_asm_passes.specs.Lines.{NumberedLine, givens, table_at}
use Rattle.m11_asm_passes.specs.Refusals.{given_by}
use Rattle.m11_asm_rules.specs.Lines.{after_line, line_change, stands}
use Rattle.m11_asm_rules.specs.Meanings.{Map, empty_map, known_at}
use Rattle.m11_asm_rules.specs.Placements.{after_lines, table_after}
use Rattle.m11_asm_rules.specs.Tables.{Table, firm_table, first_table, location}
use Rattle.m11_asm_rules.specs.Unfolded.{known_after_labels}
use Rattle.m11_asm_rules.specs.declared.meanings.Context.TheVariants.{LocalOnly}
use Rattle.m11_unfold_rules.specs.Stages.{Stage}
use Rattle.m11_unfold_rules.specs.Taking.{Live}
use Rattle.m11_unfold_rules.specs.Unfolding.{UnfoldedLine}
use Rattle.m11_unfold_rules.specs.Unfolding as steps

-- the firm part of the table is the same under any two maps
abbrev pub PlaceAlike : Type 0
PlaceAlike = (one other : Map) (lines : List UnfoldedLine) → firm_table (table_after one lines) ≡ firm_table (table_after other lines)

-- ---- lines in two parts

pub after_both : (map : Map) (first second : List UnfoldedLine) (table : Table)
    → after_lines map table (first ++ second) ≡ after_lines map (after_lines map table first) second
after_both map [] second table = refl
after_both map (given ∷ first) second table = after_both map first second (after_line map table given)

-- ---- a line of unfolding changes nothing after its labels

abbrev own_line : UnfoldedLine → UnfoldedLine
own_line given = record given { is_own = true }

own_stands : (map : Map) (table : Table) (given : UnfoldedLine) → after_line map table (own_line given) ≡ stands table given
unfolding line_change
own_stands map table given = refl

own_after : (map : Map) (lines : List UnfoldedLine) (given : UnfoldedLine)
    → table_after map (lines ++ own_line given ∷ []) ≡ stands (table_after map lines) given
own_after map lines given =
    after_both map lines (own_line given ∷ []) first_table ∙ own_stands map (table_after map lines) given

module _ (alike : PlaceAlike) (one other : Map) where
  -- so the firm part of the table is also the same after the labels of a line
  pub stands_alike : (lines : List UnfoldedLine) (given : UnfoldedLine)
      → firm_table (stands (table_after one lines) given) ≡ firm_table (stands (table_after other lines) given)
  stands_alike lines given =
      ap firm_table (sym (own_after one lines given)) ∙ alike one other (lines ++ own_line given ∷ [])
      ∙ ap firm_table (own_after other lines given)

  pub told_alike : (lines : List UnfoldedLine) (given : UnfoldedLine)
      → known_after_labels (stands (table_after one lines) given) ≡ known_after_labels (stands (table_after other lines) given)
  told_alike lines given = ap (λ (t : Table). known_at empty_map LocalOnly t (location t)) (stands_alike lines given)

  -- a line that becomes live, with what is known at it, is the same under any two maps
  pub given_alike : (lines : List NumberedLine) (live : Live) (stage : Stage)
      → given_by (table_at one lines) live stage ≡ given_by (table_at other lines) live stage
  given_alike lines live stage =
      ap (λ (k : KnownSymbols). steps.given k live stage) (told_alike (givens lines) (given_by (table_at one lines) live stage))

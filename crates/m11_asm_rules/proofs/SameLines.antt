-- A source has the same live lines under every map.
use Rattle.std.proofs.Common.{◌≡◌, ◌∙◌, List, [], ◌∷◌, refl, ap}
use Rattle.m11_scan.specs.Line.{SourceLine}
use Rattle.m11_unfold_rules.specs.Stages.{Stage}
use Rattle.m11_unfold_rules.specs.Unfolding.{UnfoldedLine}
use Rattle.m11_asm_rules.proofs.FirmLines.{line_alike, stands_alike}
use Rattle.m11_asm_rules.specs.Lines.{after_line}
use Rattle.m11_asm_rules.specs.Meanings.{LocalOnly, Map, empty_map, known_at}
use Rattle.m11_asm_rules.specs.Tables.{Table, first_table, firm_table, location}
use Rattle.m11_asm_rules.specs.Unfolded.{AreLines, KnowLinesBefore}

told_alike : (one other : Map) (lines : List UnfoldedLine) (first second : Table) → firm_table first ≡ firm_table second
    → KnowLinesBefore one first lines → KnowLinesBefore other second lines
told_alike one other [] first second same are_told = tt
told_alike one other (given ∷ lines) first second same are_told = (
  are_told.0 ∙ ap (λ (t : Table). known_at empty_map LocalOnly t (location t)) (stands_alike given first second same),
  told_alike one other lines (after_line one first given) (after_line other second given)
      (line_alike one other given first second same) are_told.1,
)

pub lines_are_same : (one other : Map) (source : List SourceLine) (lines : List UnfoldedLine) (stage : Stage)
    → AreLines one source lines stage → AreLines other source lines stage
lines_are_same one other source lines stage are_lines =
    (are_lines.0, told_alike one other lines first_table first_table refl are_lines.1)

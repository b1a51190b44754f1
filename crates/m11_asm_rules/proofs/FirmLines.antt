-- After each line the firm part of the table is the same under any two maps.
use Rattle.std.proofs.Common.{◌≡◌, ◌∙◌, List, [], ◌∷◌, refl, sym, ap}
use Rattle.m11_unfold_rules.specs.Unfolding.{UnfoldedLine}
use Rattle.m11_asm_rules.proofs.FirmChanges.{change_alike}
use Rattle.m11_asm_rules.proofs.FirmLabels.{labels_firm}
use Rattle.m11_asm_rules.specs.Changes.{changed}
use Rattle.m11_asm_rules.specs.Labels.{after_labels_in}
use Rattle.m11_asm_rules.specs.Lines.{after_line, line_change, stands}
use Rattle.m11_asm_rules.specs.Meanings.{Map}
use Rattle.m11_asm_rules.specs.Placements.{after_lines, table_after}
use Rattle.m11_asm_rules.specs.Tables.{Table, first_table, firm_table}

pub stands_alike : (given : UnfoldedLine) (first second : Table) → firm_table first ≡ firm_table second
    → firm_table (stands first given) ≡ firm_table (stands second given)
stands_alike given first second same =
    labels_firm first given.live.line.text
    ∙ ap (λ (t : Table). after_labels_in t given.live.line.text) same
    ∙ sym (labels_firm second given.live.line.text)

operator_alike : (one other : Map) (given : UnfoldedLine) (first second : Table) → firm_table first ≡ firm_table second
    → firm_table (changed one (line_change (firm_table first) given) first)
    ≡ firm_table (changed other (line_change (firm_table second) given) second)
operator_alike one other given first second same =
    ap (λ (t : Table). firm_table (changed one (line_change t given) first)) same
    ∙ change_alike one other (line_change (firm_table second) given) first second same

pub line_alike : (one other : Map) (given : UnfoldedLine) (first second : Table) → firm_table first ≡ firm_table second
    → firm_table (after_line one first given) ≡ firm_table (after_line other second given)
line_alike one other given first second same =
    operator_alike one other given (stands first given) (stands second given) (stands_alike given first second same)

pub lines_alike : (one other : Map) (lines : List UnfoldedLine) (first second : Table) → firm_table first ≡ firm_table second
    → firm_table (after_lines one first lines) ≡ firm_table (after_lines other second lines)
lines_alike one other [] first second same = same
lines_alike one other (given ∷ lines) first second same =
    lines_alike one other lines (after_line one first given) (after_line other second given)
    (line_alike one other given first second same)

pub tables_alike : (one other : Map) (lines : List UnfoldedLine)
    → firm_table (table_after one lines) ≡ firm_table (table_after other lines)
tables_alike one other lines = lines_alike one other lines first_table first_table refl

-- The counts of a table after lines.
use Rattle.std.proofs.Common.{◌≤◌, ℕ, ◌+◌, ◌*◌, List, [], ◌∷◌, length, arith}
use Rattle.std.specs.List.{AllByRecursion}
use Rattle.m11_base.specs.Devices.{Bytes}
use Rattle.m11_scan_statements.specs.Labels.{labels_at}
use Rattle.m11_scan_statements.specs.Order.{LabelsLie}
use Rattle.m11_scan_statements.specs.declared.labels.Label.{Label}
use Rattle.m11_unfold_rules.specs.Limits.{most_lines}
use Rattle.m11_unfold_rules.specs.Unfolding.{UnfoldedLine}
use Rattle.m11_asm_rules.specs.Bounds.{AreBelowGreatest, IsInWidth}
use Rattle.m11_asm_rules.specs.Lines.{after_line, line_change, stands}
use Rattle.m11_asm_rules.specs.Operations.{action}
use Rattle.m11_asm_rules.specs.Meanings.{Map}
use Rattle.m11_asm_rules.specs.Placements.{after_lines, table_after}
use Rattle.m11_asm_rules.specs.Tables.{Table, firm_table, first_table}
use Rattle.m11_asm_rules.specs.declared.modes.Modes.{Modes}
use Rattle.m11_asm_rules.proofs.Settling.{Moves, change_modest, changed_moves, labels_blocks}

abbrev pub LabelsAreInOrder : Type 0
LabelsAreInOrder = (line : Bytes) → LabelsLie (length line) 0 (labels_at line)

-- a text has no more labels than characters after the column where they begin, since each has at least a character and a colon
few_labels : (size column : ℕ) (labels : List Label) → LabelsLie size column labels → column + length labels ≤ size
few_labels size column [] lie = let all : column ≤ size = lie in omega (arith, all)
few_labels size column (label ∷ labels) lie =
    let begins = lie.0 in
    let some = lie.1 in
    let ends = lie.2 in
    let rest = few_labels size label.end labels lie.3 in
    omega (arith, begins, some, ends, rest)

-- the counts after a line: at most this many more blocks (one for each label, and one for a selected section), and at most one more `.LIST`
-- and one more `.NLIST`
record GoesOn (most : ℕ) (old new : Modes) : Type 0 where
  block : new.block ≤ old.block + most
  listed : new.listed ≤ old.listed + 1
  unlisted : new.unlisted ≤ old.unlisted + 1

moves_of_line : (map : Map) (table : Table) (given : UnfoldedLine) → Moves (stands table given) (after_line map table given)
unfolding line_change
moves_of_line map table given =
    changed_moves map (line_change (firm_table (stands table given)) given) (stands table given)
    (change_modest (firm_table (stands table given)) given.live.line.text (action given.is_own given.arguments given.live.line.text))

line_goes_on : LabelsAreInOrder → (map : Map) (table : Table) (given : UnfoldedLine) → IsInWidth given
    → GoesOn 133 table.modes (after_line map table given).modes
line_goes_on in_order map table given width =
    let labels = labels_blocks given.live.line.text table (labels_at given.live.line.text) in
    let moves = moves_of_line map table given in
    let few = few_labels (length given.live.line.text) 0 (labels_at given.live.line.text) (in_order given.live.line.text) in
    let within : length given.live.line.text ≤ 132 = width in
    let blocks = labels.block in
    let listed = labels.listed in
    let unlisted = labels.unlisted in
    let block = moves.block in
    let level = moves.listed in
    let other = moves.unlisted in
    record {
      block = omega (arith, few, within, blocks, block);
      listed = omega (arith, listed, level);
      unlisted = omega (arith, unlisted, other);
    }

lines_go_on : LabelsAreInOrder → (map : Map) (table : Table) (lines : List UnfoldedLine) → AllByRecursion IsInWidth lines
    → (block : (after_lines map table lines).modes.block ≤ table.modes.block + 133 * length lines)
    × (listed : (after_lines map table lines).modes.listed ≤ table.modes.listed + length lines)
    × ((after_lines map table lines).modes.unlisted ≤ table.modes.unlisted + length lines)
lines_go_on in_order map table [] width = (omega arith, omega arith, omega arith)
lines_go_on in_order map table (given ∷ lines) width =
    let one = line_goes_on in_order map table given width.0 in
    let rest = lines_go_on in_order map (after_line map table given) lines width.1 in
    let block = one.block in
    let listed = one.listed in
    let unlisted = one.unlisted in
    let others = rest.0 in
    let levels = rest.1 in
    let more = rest.2 in
    (omega (arith, block, others), omega (arith, listed, levels), omega (arith, unlisted, more))

pub bounded : LabelsAreInOrder → (map : Map) (lines : List UnfoldedLine) → AllByRecursion IsInWidth lines → length lines ≤ most_lines
    → AreBelowGreatest (table_after map lines).modes
bounded in_order map lines width few =
    let all = lines_go_on in_order map first_table lines width in
    let within : length lines ≤ 200000 = few in
    let block = all.0 in
    let listed = all.1 in
    let unlisted = all.2 in
    record {
      block = omega (arith, block, within);
      listed = omega (arith, listed, within);
      unlisted = omega (arith, unlisted, within);
    }

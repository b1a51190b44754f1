-- The effect of the labels of a line. (MACRO-11 Language Reference Manual, "Label field", "Local symbols" and "Diagnostic error message
-- summary", M and P.)
use Rattle.std.specs.Prelude.{◌≡◌, ◌≤◌, ◌⊎◌, None, length}
use Rattle.m11_base.specs.Devices.{Bytes}
use Rattle.m11_scan_statements.specs.Labels.{labels_at}
use Rattle.m11_asm_rules.specs.Labels.{labels_flags, after_labels_in}
use Rattle.m11_asm_rules.specs.Limits.{most_names}
use Rattle.m11_asm_rules.specs.Meanings.{Map}
use Rattle.m11_asm_rules.specs.Tables.{Table}
use Rattle.m11_asm_lines.specs.Labels.{AreFlags, FitsUpToDefined}
use Rattle.m11_asm_lines.specs.Counting.{FitsUpToCounted, names_counted, with_counted}
use Rattle.m11_asm_lines.specs.Moved.{moved_flags}
use Rattle.m11_asm_lines.specs.declared.counting.Counting.{Counting}
use Rattle.m11_asm_lines.specs.declared.labels.LabelFlags.{LabelFlags}
use Rattle.m11_asm_passes.specs.Refusals.{labels_fault, uses_of_labels}

-- the labels of a line exceed no limit; the new table is the one after them, and these are their flags
pub record LabelsLie (map : Map) (counting : Counting) (line : Bytes) (old new : Table) (flags : LabelFlags) : Type 0 where
  pub fits : labels_fault counting old line ≡ None
  pub table : new ≡ after_labels_in old line
  pub are : AreFlags flags (labels_flags line old (labels_at line)) (moved_flags map line old (labels_at line))

-- if memory is refused for the name of a label, the names counted up to and including that one are within their limit; or the names of all
-- labels of the line are counted within that limit, memory is refused for a label, and the names and local symbols defined up to and
-- including that one are within theirs
abbrev pub FitUpToOne : Counting → Table → Bytes → Type 0
FitUpToOne old table line =
    FitsUpToCounted line (labels_at line) old
    ⊎ ((length (names_counted (with_counted (uses_of_labels line) old)) ≤ most_names) × FitsUpToDefined line (labels_at line) table)

-- The statement of a line: its labels and its body. (MACRO-11 Language Reference Manual, "Source program format".)
use Rattle.std.specs.Prelude.{ℕ, Bool, true, false, List}
use Rattle.std.specs.List.{list_any}
use Rattle.std.specs.Int.RustNames.{bit_or}
use Rattle.m11_base.specs.Devices.{Bytes}
use Rattle.m11_scan.specs.Cutting.{tokens_from}
use Rattle.m11_scan.specs.ErrorFlags.{flag_A, flag_I, flag_L, flag_if}
use Rattle.m11_scan.specs.Line.{SourceLine}
use Rattle.m11_scan.specs.Skipped.{skipped_between}
use Rattle.m11_scan_statements.specs.Bodies.{body_in}
use Rattle.m11_scan_statements.specs.Labels.{labels_at, labels_end}
use Rattle.m11_scan_statements.specs.declared.bodies.Body.{Body}
use Rattle.m11_scan_statements.specs.declared.labels.Label.{Label}
use Rattle.m11_scan_statements.specs.declared.labels.LabelKind.{LabelKind}
use Rattle.m11_scan_statements.specs.declared.labels.LabelKind.TheVariants.{Outside}

-- the body of a line: what follows its labels
abbrev pub body_of : Bytes → Body
body_of line = body_in line (tokens_from line (labels_end line))

abbrev pub is_outside : LabelKind → Bool
is_outside Outside = true
is_outside _ = false

abbrev pub has_outside : List Label → Bool
has_outside labels = list_any (λ label. is_outside label.kind) labels

-- the flags of a line that don't depend on its body: L for an over-long line, A for a label that is a local symbol outside 1 to 65535,
-- and I for a skipped character before the end of the labels
abbrev pub label_flags : SourceLine → ℕ
label_flags line =
    bit_or (bit_or (flag_if line.is_over_long flag_L) (flag_if (has_outside (labels_at line.text)) flag_A))
    (flag_if (skipped_between line.text 0 (labels_end line.text)) flag_I)

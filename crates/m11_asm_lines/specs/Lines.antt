-- The flags of a line, part by part. (MACRO-11 Language Reference Manual, "Source program format".)
use Rattle.std.specs.Prelude.{ℕ}
use Rattle.std.specs.Int.RustNames.{bit_or}
use Rattle.m11_scan_expressions.specs.LeftOvers.{skip_flags}
use Rattle.m11_base.specs.Devices.{Bytes}
use Rattle.m11_scan_statements.specs.declared.bodies.Body.{Body}
use Rattle.m11_asm_rules.specs.Lines.{known_end}

-- the flags of a line: its own; those of labels defined before; I for characters skipped after the labels, and before the operator if there
-- is one; and those of its operation's text, of what it emits, and of unfolding
abbrev pub flags_from : Bytes → ℕ → Body → ℕ → ℕ → ℕ → ℕ → ℕ → ℕ
flags_from line labels_end body own labels operation emission noted =
    bit_or (bit_or own labels)
    (bit_or (skip_flags line labels_end (known_end line body)) (bit_or operation (bit_or emission noted)))

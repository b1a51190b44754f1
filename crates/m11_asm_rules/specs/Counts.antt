-- `.NARG` and `.NCHR`. (MACRO-11 Language Reference Manual, ".NARG directive" and ".NCHR directive". This project's own: the length of a
-- missing text is 0, flagged A unless a comma comes before it; and `.NARG` outside a macro assigns nothing, and is flagged O.)
use Rattle.std.specs.Prelude.{ℕ, false, if◌then◌else◌, length, Option, Some, None, is_none}
use Rattle.std.specs.Int.RustNames.{bit_or}
use Rattle.m11_unfold_rules.specs.Conditions.{actual_flags, text_of}
use Rattle.m11_scan_expressions.specs.LeftOvers.{bad_flags, left_over, flags_before}
use Rattle.m11_unfold_rules.specs.Headers.{name_at}
use Rattle.m11_base.specs.Devices.{Bytes}
use Rattle.m11_scan.specs.Cutting.{tokens_from}
use Rattle.m11_scan.specs.ErrorFlags.{flag_A, flag_if}
use Rattle.m11_scan_statements.specs.Actuals.{next_actual, separator_at}
use Rattle.m11_scan_statements.specs.declared.actuals.Actual.{Actual}
use Rattle.m11_scan_statements.specs.declared.actuals.Separator.{Separator}
use Rattle.m11_unfold_rules.specs.Acting.{flag_O}
use Rattle.m11_asm_rules.specs.Actions.{NoAction, Operation, SetNumber, does, refused}
use Rattle.m11_asm_rules.specs.Elements.{argument_flags}

-- ---- .NARG s: s becomes the number of actuals of the innermost macro call

abbrev pub narg : Option ℕ → Bytes → ℕ → Operation
narg arguments line start = elim (name_at (tokens_from line start)) [
  | Some named ↦
      does (elim arguments [ Some count ↦ SetNumber named.name count | None ↦ NoAction ])
      (bit_or (flag_if (is_none arguments) flag_O) (argument_flags line start named.end))
  | None ↦ does NoAction (bit_or (flag_if (is_none arguments) flag_O) (bad_flags line start))
]

-- ---- .NCHR s,<text>: s becomes the number of characters of the text; blanks, a comma or both follow the name

abbrev pub text_at : Bytes → ℕ → Option Actual
text_at line end = next_actual line (separator_at line end).end false

-- the flags of the text after the name, and of what is left over; if the text is missing, A in place of its flags, unless a comma follows
-- the name
abbrev pub text_flags : Bytes → Separator → Option Actual → ℕ
text_flags line separator (Some actual) = bit_or (actual_flags actual) (left_over line actual.end)
text_flags line separator None =
    if separator.has_comma then left_over line separator.end else bit_or flag_A (left_over line separator.end)

abbrev pub nchr : Bytes → ℕ → Operation
nchr line start = elim (name_at (tokens_from line start)) [
  | Some named ↦
      does (SetNumber named.name (elim (text_at line named.end) [ Some actual ↦ length (text_of line actual) | None ↦ 0 ]))
      (bit_or (flags_before line start) (text_flags line (separator_at line named.end) (text_at line named.end)))
  | None ↦ refused line start
]

-- The arguments of macro calls, of `.IRP` and of conditions. (MACRO-11 Language Reference Manual, "Arguments in macro definitions and macro
-- calls". That an actual without its `>` extends to the end of the line, and that any expression may follow `\`, are this project's own
-- choices.)
use Rattle.std.specs.Prelude.{ℕ, ◌+◌, Bool, true, false, ◌&&◌, ◌==◌, if◌then◌else◌, [], ◌∷◌, drop, Option, Some, None}
use Rattle.std.specs.List.{prefix_len}
use Rattle.m11_base.specs.Devices.{Bytes}
use Rattle.m11_scan.specs.Classes.{is_bare, is_blank}
use Rattle.m11_scan.specs.Ends.{expression_end}
use Rattle.m11_scan.specs.Texts.{bracketed, separator_length}
use Rattle.m11_scan_statements.specs.declared.actuals.Actual.{Actual}
use Rattle.m11_scan_statements.specs.declared.actuals.ActualKind.{ActualKind}
use Rattle.m11_scan_statements.specs.declared.actuals.ActualKind.TheVariants.{Bare, Bracketed, Digits}
use Rattle.m11_scan_statements.specs.declared.actuals.Separator.{Separator}

abbrev pub begins_with_comma : Bytes → Bool
begins_with_comma [] = false
begins_with_comma (byte ∷ text) = byte == 0o54

-- the separator at a column: blanks and tabs with at most one comma among them, or nothing
abbrev pub separator_at : Bytes → ℕ → Separator
separator_at line column = record {
  has_comma = begins_with_comma (drop (prefix_len is_blank (drop column line)) (drop column line));
  end = column + separator_length (drop column line);
}

-- an actual that needs no closing `>`
abbrev pub whole_actual : ActualKind → ℕ → ℕ → Actual
whole_actual kind start end =
    record { kind = kind; inside = record { start = start; end = end }; is_closed = true; end = end }

-- a bracketed actual, whose `<` is directly before this column; without its `>` it extends to the end of the line
abbrev pub bracketed_actual : Bytes → ℕ → Actual
bracketed_actual line start =
    let enclosed = bracketed (drop start line) in record {
      kind = Bracketed;
      inside = record { start = start; end = start + enclosed.length };
      is_closed = enclosed.is_closed;
      end = if enclosed.is_closed then start + enclosed.length + 1 else start + enclosed.length;
    }

-- the next actual at or after a column; blanks and tabs before it are skipped. Its first character decides its kind: `<` begins a
-- bracketed one, `\` comes before an expression if `allows_digits`, and any other character begins one that extends to a comma, a
-- blank, a tab, a `;` or the end of the line. There is no actual at the end of the line or at a `;`; at a comma the actual is empty
abbrev pub next_actual : Bytes → ℕ → Bool → Option Actual
next_actual line column allows_digits =
    let start = column + prefix_len is_blank (drop column line) in elim (drop start line) [
      | [] ↦ None
      | byte ∷ text ↦
          if byte == 0o73 then None
          else (if byte == 0o74 then Some (bracketed_actual line (start + 1))
          else (if byte == 0o134 && allows_digits then Some (whole_actual Digits (start + 1) (expression_end line (start + 1)))
          else Some (whole_actual Bare start (start + prefix_len is_bare (drop start line)))))
    ]

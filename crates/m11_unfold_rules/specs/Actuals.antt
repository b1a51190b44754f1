-- The actuals of a macro call and of the list of an `.IRP`. (MACRO-11 Language Reference Manual, "Arguments in macro definitions and macro
-- calls" and "Numeric arguments passed as symbols". Ignoring actuals beyond the wanted number, with the flag Q, is this project's own
-- choice.)
use Rattle.std.specs.Prelude.{ℕ, zero, suc, true, List, [], ◌∷◌, ◌++◌, map, Vec, Some, None}
use Rattle.std.specs.Option.{is_some}
use Rattle.std.specs.declared.alloc.Global.{Global}
use Rattle.m11_base.specs.Devices.{Bytes}
use Rattle.m11_scan.specs.ErrorFlags.{flag_Q, flag_if}
use Rattle.m11_scan.specs.Numbers.{base_of}
use Rattle.m11_scan_statements.specs.Actuals.{next_actual, separator_at}
use Rattle.m11_scan_statements.specs.declared.actuals.Actual.{Actual}
use Rattle.m11_scan_statements.specs.declared.actuals.ActualKind.TheVariants.{Digits}
use Rattle.m11_unfold_rules.specs.Conditions.{actual_flags, text_of}
use Rattle.m11_unfold_rules.specs.Digits.{digits_of}
use Rattle.m11_scan_expressions.specs.Expressions.{KnownSymbols, number_at, number_flags, symbols_at}
use Rattle.m11_scan_expressions.specs.Remarks.{Remarks, joined, no_remarks, remarks_of}

-- texts of actuals, and the flags and symbols found in reading them
pub record ActualTexts : Type 0 where
  pub texts : List Bytes
  pub remarks : Remarks

abbrev pub no_actual_texts : ActualTexts
no_actual_texts = record { texts = []; remarks = no_remarks }

-- texts followed by others, with the flags and symbols of both
abbrev pub followed_by : ActualTexts → ActualTexts → ActualTexts
followed_by first more = record { texts = first.texts ++ more.texts; remarks = joined first.remarks more.remarks }

-- the digits, in the current radix, of the number of the expression after a `\`, with its flags and symbols
abbrev pub numeral : KnownSymbols → Bytes → ℕ → ActualTexts
numeral known line column = record {
  texts = digits_of (base_of known.radix) (number_at known line column) ∷ [];
  remarks = remarks_of (number_flags known line column) (symbols_at line column);
}

abbrev pub characters : Bytes → Actual → ActualTexts
characters line actual = record { texts = text_of line actual ∷ []; remarks = remarks_of (actual_flags actual) [] }

-- the text of an actual (its characters, or after `\` the digits of the expression's number), with its flags and symbols
abbrev pub given_by : KnownSymbols → Bytes → Actual → ActualTexts
given_by known line actual =
    elim actual.kind [ Digits ↦ numeral known line actual.inside.start | _ ↦ characters line actual ]

-- the actuals at or after a column of a line, at most `wanted` of them, with their flags and symbols; a further one is ignored, with
-- the rest of the line, and flagged Q
abbrev pub actuals_from : KnownSymbols → Bytes → ℕ → ℕ → ActualTexts
actuals_from known line zero column =
    record { texts = []; remarks = remarks_of (flag_if (is_some (next_actual line column true)) flag_Q) [] }
actuals_from known line (suc wanted) column = elim (next_actual line column true) [
  | None ↦ no_actual_texts
  | Some actual ↦ followed_by (given_by known line actual)
      (actuals_from known line wanted (separator_at line actual.end).end)
]

-- the characters in the code's vector
abbrev pub characters_of : Vec ℕ Global → Bytes
characters_of text = text.items

-- the characters in each of the code's vectors
abbrev pub texts_of : List (Vec ℕ Global) → List Bytes
texts_of texts = map characters_of texts

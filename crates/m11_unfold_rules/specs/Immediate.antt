-- `.IIF`: a condition, a comma, and a statement. (MACRO-11 Language Reference Manual, "Immediate conditional assembly directive". Taking
-- all of the text after the comma as the statement is this project's own choice.)
use Rattle.std.specs.Prelude.{ℕ, if◌then◌else◌, List, [], ◌∷◌, Option, Some, None}
use Rattle.std.specs.Int.RustNames.{bit_or}
use Rattle.m11_base.specs.Devices.{Bytes}
use Rattle.m11_scan.specs.Cutting.{Lexeme, tokens_from}
use Rattle.m11_scan.specs.ErrorFlags.{flag_A}
use Rattle.m11_scan_statements.specs.Listed.{is_comma}
use Rattle.m11_unfold_rules.specs.declared.immediate.Immediate.{Immediate}
use Rattle.m11_unfold_rules.specs.Conditions.{ConditionResult, condition}
use Rattle.m11_scan_expressions.specs.Expressions.{KnownSymbols}
use Rattle.m11_scan_expressions.specs.LeftOvers.{left_over, skip_flags}
use Rattle.m11_scan_expressions.specs.Remarks.{Remarks, remarks_of}

-- the column after the comma, if the first of these tokens is a comma
abbrev pub after_comma : List Lexeme → Option ℕ
after_comma [] = None
after_comma (token ∷ tokens) = if is_comma token.sort then Some token.end else None

-- the column after the comma, if the first token at or after a column is a comma
abbrev pub column_after_comma : Bytes → ℕ → Option ℕ
column_after_comma line column = after_comma (tokens_from line column)

-- I for a skipped character before the comma; without a comma A, and also Q for a left-over token and I for a skipped character
abbrev pub comma_flags : Bytes → ℕ → Option ℕ → ℕ
comma_flags line column (Some end) = skip_flags line column end
comma_flags line column None = bit_or flag_A (left_over line column)

-- whether the condition is true, and the column where the statement begins, if there is a comma
abbrev pub immediate : KnownSymbols → Bytes → ℕ → Immediate
immediate known line column =
    let asked : ConditionResult = condition known line column in
    record { holds = asked.holds; statement = column_after_comma line asked.end }

abbrev pub remarks : KnownSymbols → Bytes → ℕ → Remarks
remarks known line column =
    let asked : ConditionResult = condition known line column in
    remarks_of (bit_or asked.flags (comma_flags line asked.end (column_after_comma line asked.end))) asked.symbols

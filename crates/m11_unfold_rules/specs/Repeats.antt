-- The number of rounds of `.REPT`, and its flags and symbols. (MACRO-11 Language Reference Manual, "Repeat block directive". Counting a
-- missing number as 0, with the flag A, is this project's own choice.)
use Rattle.std.specs.Prelude.{ℕ, if◌then◌else◌, []}
use Rattle.std.specs.Int.RustNames.{bit_or}
use Rattle.m11_base.specs.Devices.{Bytes}
use Rattle.m11_scan.specs.Ends.{expression_end}
use Rattle.m11_scan.specs.ErrorFlags.{flag_A}
use Rattle.m11_unfold_rules.specs.Conditions.{is_negative}
use Rattle.m11_scan_expressions.specs.Expressions.{KnownSymbols, has_expression, number_at, number_flags, symbols_at}
use Rattle.m11_scan_expressions.specs.LeftOvers.{left_over}
use Rattle.m11_scan_expressions.specs.Remarks.{Remarks, remarks_of}

-- the number of rounds; 0 if the number is negative or missing
abbrev pub rept_count : KnownSymbols → Bytes → ℕ → ℕ
rept_count known line column =
    let number : ℕ = number_at known line column in
    if has_expression line column then (if is_negative number then 0 else number) else 0

abbrev pub remarks : KnownSymbols → Bytes → ℕ → Remarks
remarks known line column =
    if has_expression line column then
    remarks_of (bit_or (number_flags known line column) (left_over line (expression_end line column))) (symbols_at line column)
    else remarks_of (bit_or flag_A (left_over line column)) []

-- The flags of the rest of a line after its arguments, and of a bad argument. (MACRO-11 Language Reference Manual,
-- "Diagnostic error message summary", A, Q and I.)
use Rattle.std.specs.Prelude.{ℕ, Bool, true, false, List, [], ◌∷◌, length}
use Rattle.std.specs.Int.RustNames.{bit_or}
use Rattle.m11_base.specs.Devices.{Bytes}
use Rattle.m11_scan.specs.Cutting.{Lexeme, tokens_from}
use Rattle.m11_scan.specs.ErrorFlags.{flag_A, flag_I, flag_Q, flag_if}
use Rattle.m11_scan.specs.Skipped.{skipped_between}

-- I if a line has a skipped character from `start` up to but not including `end`, otherwise no flags
abbrev pub skip_flags : Bytes → ℕ → ℕ → ℕ
skip_flags line start end = flag_if (skipped_between line start end) flag_I

-- I if a line has a skipped character at or after a column, otherwise no flags
abbrev pub rest_flags : Bytes → ℕ → ℕ
rest_flags line column = skip_flags line column (length line)

-- whether there is at least one token
abbrev pub has_token : List Lexeme → Bool
has_token [] = false
has_token (token ∷ tokens) = true

-- Q if a line has a token at or after a column, and I if it has a skipped character there
abbrev pub left_over : Bytes → ℕ → ℕ
left_over line column =
    bit_or (flag_if (has_token (tokens_from line column)) flag_Q) (rest_flags line column)

-- A for an argument that is bad or missing at a column, and I for a skipped character from that column to the end of the line
abbrev pub bad_flags : Bytes → ℕ → ℕ
bad_flags line column = bit_or flag_A (rest_flags line column)

-- the column where the first of these tokens begins, or the end of the line if there are no tokens
abbrev pub start_of : Bytes → List Lexeme → ℕ
start_of line [] = length line
start_of line (token ∷ tokens) = token.start

-- I if a line has a skipped character between a column and the next token, or, if no token follows, between the column and the
-- end of the line; otherwise no flags
abbrev pub flags_before : Bytes → ℕ → ℕ
flags_before line column = skip_flags line column (start_of line (tokens_from line column))

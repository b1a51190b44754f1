-- RADIX-50 codes of characters, with a number for a missing code. (MACRO-11 Language Reference Manual, appendix on the RADIX-50
-- character set: there are forty codes.)
use Rattle.std.specs.Prelude.{ℕ, nat_lt, if◌then◌else◌, Option, Some, None}

-- a code, or 40 for a missing one
abbrev pub code_or_none : Option ℕ → ℕ
code_or_none (Some code) = code
code_or_none None = 40

-- a number as a code; none if it is 40 or more
abbrev pub code_or_no : ℕ → Option ℕ
code_or_no number = if nat_lt number 40 then Some number else None

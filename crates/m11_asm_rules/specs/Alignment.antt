-- Even and odd locations: words and instructions move on to the next even location. (MACRO-11 Language Reference Manual, "Diagnostic error
-- message summary", B; ".EVEN directive" and ".ODD directive". This project's own: the operator alone decides whether its location must be
-- even.)
use Rattle.std.specs.Prelude.{ℕ, ◌+◌, ◌-◌, ◌%◌, ◌==◌, Bool, if◌then◌else◌}
use Rattle.m11_scan.specs.ErrorFlags.{flag_if}

-- the set with the flag B alone
abbrev pub flag_B : ℕ
flag_B = 0o2

-- the number of bytes, 0 or 1, from a location to the first even (true) or odd (false) location at or after it
abbrev pub to_next : Bool → ℕ → ℕ
to_next is_even location = if is_even then location % 2 else 1 - location % 2

-- the number of bytes, 0 or 1, skipped before contents that need an even location (true) or don't (false)
abbrev pub gap : Bool → ℕ → ℕ
gap is_even location = if is_even then location % 2 else 0

-- the first location at or after this one, modulo 65536, for contents that need an even location (true) or don't (false)
abbrev pub location_for : Bool → ℕ → ℕ
location_for is_even location = (location + gap is_even location) % 65536

-- B if a byte is skipped
abbrev pub gap_flags : Bool → ℕ → ℕ
gap_flags is_even location = flag_if (gap is_even location == 1) flag_B

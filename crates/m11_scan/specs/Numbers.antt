-- The value and the error flags of a number in a source. (MACRO-11 Language Reference Manual, "Numbers": a number with a digit outside
-- its radix is decimal, flagged N; one over 65535 is reduced modulo 65536, flagged T.)
use Rattle.std.specs.Prelude.{ℕ, ◌+◌, ◌-◌, ◌*◌, ◌^◌, Bool, nat_le, nat_lt, if◌then◌else◌, [], ◌∷◌, length}
use Rattle.std.specs.List.{list_any}
use Rattle.std.specs.Int.RustNames.{bit_or}
use Rattle.m11_base.specs.Devices.{Bytes}
use Rattle.m11_scan.specs.ErrorFlags.{flag_N, flag_T}
use Rattle.m11_scan.specs.declared.radix.Radix.{Radix}
use Rattle.m11_scan.specs.declared.radix.Radix.TheVariants.{Binary, Octal, Decimal}

abbrev pub base_of : Radix → ℕ
base_of Binary = 2
base_of Octal = 8
base_of Decimal = 10

-- the number that digits spell in a base: the sum of the digits, each times the base to the power of the number of digits after it
abbrev pub spelled : ℕ → Bytes → ℕ
spelled base [] = 0
spelled base (digit ∷ digits) = (digit - 0o60) * base ^ length digits + spelled base digits

-- whether any of the digits is outside the base
abbrev pub has_digit_outside : ℕ → Bytes → Bool
has_digit_outside base digits = list_any (λ digit. nat_le (base + 0o60) digit) digits

-- the number that digits spell in a radix; if one of them is outside the radix, they are read as decimal
abbrev pub number_of : Radix → Bytes → ℕ
number_of radix digits =
    spelled (if has_digit_outside (base_of radix) digits then 10 else base_of radix) digits

-- T for a number over 65535, and N for a digit outside the radix; otherwise no flags
abbrev pub number_flags : Radix → Bytes → ℕ
number_flags radix digits =
    bit_or (if nat_lt 65535 (number_of radix digits) then flag_T else 0)
    (if has_digit_outside (base_of radix) digits then flag_N else 0)

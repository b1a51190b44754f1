-- Numbers that don't fit in a word. (MACRO-11 Language Reference Manual, "Numbers".)
use Rattle.std.specs.Prelude.{ℕ, ◌==◌, not, Bool, bit_and}
use Rattle.m11_scan.specs.ErrorFlags.{flag_T}

-- whether the flags of a number contain T, which means that the number is over 65535
abbrev pub is_large : ℕ → Bool
is_large flags = not (bit_and flags flag_T == 0)

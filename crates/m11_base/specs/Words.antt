-- Exact numbers as words. (PDP-11/40 Processor Handbook, "Instruction set": two's complement numbers.)
use Rattle.std.specs.Prelude.{ℕ, ◌-◌, ◌%◌, ℤ, pos, negsuc}

-- the non-negative remainder of an exact number divided by a limit; `negsuc n` is -(n + 1)
abbrev pub modulo : ℕ → ℤ → ℕ
modulo limit (pos n) = n % limit
modulo limit (negsuc n) = limit - 1 - n % limit

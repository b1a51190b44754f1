-- The distances of a branch and of SOB. (PDP-11/40 Processor Handbook, "Branch instructions" and "SOB": the offset of a branch is eight
-- bits with a sign, and counts words from the location after the instruction; that of SOB is six bits, and counts words back.)
use Rattle.std.specs.Prelude.{ℕ, ◌+◌, ◌-◌, ◌*◌, nat_le, if◌then◌else◌}

-- the distance in bytes of a branch with this offset, modulo 65536
abbrev pub branch_distance : ℕ → ℕ
branch_distance offset = if nat_le offset 0o177 then offset * 2 else offset * 2 + 0o177000

abbrev pub loop_distance : ℕ → ℕ
loop_distance offset = 0o200000 - offset * 2

-- The targets of branches and SOB. (PDP-11/40 Processor Handbook, "Branch instructions" and "SOB". This project's own: the offset of a
-- target out of reach is 0, and distances are taken modulo 65536.)
use Rattle.std.specs.Prelude.{ℕ, ◌-◌, ◌/◌, ◌%◌, ◌==◌, ◌&&◌, ◌||◌, nat_le, Bool, if◌then◌else◌}
use Rattle.m11_scan_expressions.specs.Quantities.{Quantity}
use Rattle.m11_asm_rules.specs.Relocations.{distance, is_here}
use Rattle.m11_asm_rules.specs.Tables.{Table}

-- whether a distance in bytes, modulo 65536, from the location after a branch is in reach: even, and at most 128 words back or 127 words
-- forward
abbrev pub in_reach : ℕ → Bool
in_reach bytes = bytes % 2 == 0 && (nat_le bytes 0o376 || nat_le 0o177400 bytes)

-- whether a branch at a location reaches its target, which must be in the current section
abbrev pub branch_reaches : Table → ℕ → Quantity → Bool
branch_reaches table location target = is_here table target.kind && in_reach (distance location target.number)

-- the offset of a branch: the distance in words as eight bits, or 0 if the target is out of reach
abbrev pub branch_offset : Table → ℕ → Quantity → ℕ
branch_offset table location target =
    if branch_reaches table location target then distance location target.number / 2 % 256 else 0

-- the distance in bytes from the location after a word back to a target, modulo 65536
abbrev pub back : ℕ → ℕ → ℕ
back location target = (65536 - distance location target) % 65536

-- whether SOB at a location reaches its target, which must be in the current section, 0 to 63 words back from the location after SOB
abbrev pub loop_reaches : Table → ℕ → Quantity → Bool
loop_reaches table location target =
    is_here table target.kind && (back location target.number % 2 == 0 && nat_le (back location target.number) 0o176)

-- the offset of SOB: the distance back in words, or 0 if the target is out of reach
abbrev pub loop_offset : Table → ℕ → Quantity → ℕ
loop_offset table location target =
    if loop_reaches table location target then back location target.number / 2 else 0

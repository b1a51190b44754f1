-- The error flags of a line, and sets of them. (MACRO-11 Language Reference Manual, "Diagnostic error message summary". That a set is a
-- number, with a bit for each letter in alphabetical order, is this project's own choice.)
use Rattle.std.specs.Prelude.{ℕ, Bool, ◌==◌, if◌then◌else◌, List, [], ◌∷◌}
use Rattle.std.specs.Int.RustNames.{bit_and}
use Rattle.m11_base.specs.Devices.{Bytes}
use Rattle.m11_scan.specs.declared.flags.Row.{Row}

abbrev pub with_bit : ℕ → ℕ → Row
with_bit flag bit = record { flag = flag; bit = bit }

-- the letters in alphabetical order, A B D E I L M N O P Q R T U, each with its bit
abbrev pub flag_rows : List Row
flag_rows =
    with_bit 0o101 0o1
    ∷ with_bit 0o102 0o2
    ∷ with_bit 0o104 0o4
    ∷ with_bit 0o105 0o10
    ∷ with_bit 0o111 0o20
    ∷ with_bit 0o114 0o40
    ∷ with_bit 0o115 0o100
    ∷ with_bit 0o116 0o200
    ∷ with_bit 0o117 0o400
    ∷ with_bit 0o120 0o1000
    ∷ with_bit 0o121 0o2000
    ∷ with_bit 0o122 0o4000
    ∷ with_bit 0o124 0o10000
    ∷ with_bit 0o125 0o20000
    ∷ []

-- the letters of these rows whose flags are in a set
abbrev pub flags_in : List Row → ℕ → Bytes
flags_in [] set = []
flags_in (row ∷ rows) set =
    if bit_and set row.bit == row.bit then row.flag ∷ flags_in rows set else flags_in rows set

-- the letters of a set in alphabetical order
abbrev pub flags_text : ℕ → Bytes
flags_text set = flags_in flag_rows set

-- sets of a single flag: A, I, L, N, Q or T
abbrev pub flag_A : ℕ
flag_A = 0o1

abbrev pub flag_I : ℕ
flag_I = 0o20

abbrev pub flag_L : ℕ
flag_L = 0o40

abbrev pub flag_N : ℕ
flag_N = 0o200

abbrev pub flag_Q : ℕ
flag_Q = 0o2000

abbrev pub flag_T : ℕ
flag_T = 0o10000

-- a flag if a condition holds, otherwise no flags
abbrev pub flag_if : Bool → ℕ → ℕ
flag_if holds flag = if holds then flag else 0

-- The lines that a program prints for faults. (This project's own.) The words of a fault's line, with a space between them, are `?M11`, the
-- command, the fault's number in decimal, the fault's name, and the fault's additions; a line feed ends the line. Example:
-- `?M11 ASM 2 Write OBJECT`.
use Rattle.std.specs.Prelude.{List, [], ◌∷◌, ◌++◌, ℕ, codes}
use Rattle.std.specs.List.{join_with_byte}
use Rattle.std.specs.Fmt.{decimal}
use Rattle.m11_base.specs.Devices.{Bytes}

-- a line of words, with a space (octal 040) between them and a line feed (octal 012) at the end
abbrev pub line : List Bytes → Bytes
line words = join_with_byte 0o40 words ++ 0o12 ∷ []

-- the line for a fault: the command, the fault's number and name, and its additions
abbrev pub line_for : Bytes → ℕ → Bytes → List Bytes → Bytes
line_for command number name more =
    line (codes "?M11" ∷ command ∷ decimal number ∷ name ∷ more)

-- the line for a file that could not be opened or created
abbrev pub open_line : Bytes → Bytes
open_line path = line (codes "?M11" ∷ codes "OPEN" ∷ path ∷ [])

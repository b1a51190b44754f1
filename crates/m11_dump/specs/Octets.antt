-- The bytes of an object's text, or of a tape's block at an odd address: three octal digits each, eight bytes to a line. A line begins
-- with the location of its first byte. (The digits: MACRO-11 Language Reference Manual, "Numbers". The lines are this project's own.)
use Rattle.std.specs.Prelude.{ℕ, ◌+◌, ◌%◌, ◌==◌, if◌then◌else◌, [], ◌∷◌, ◌++◌, map, codes}
use Rattle.m11_base.specs.Devices.{Bytes}
use Rattle.m11_base.specs.Octal.{octal_digit, octal_text}

-- a byte as three octal digits
abbrev pub octal3 : ℕ → Bytes
octal3 byte = map (octal_digit byte) (2 ∷ 1 ∷ 0 ∷ [])

-- the location `index` bytes after an address; octal 177777 is followed by 0
abbrev pub location_after : ℕ → ℕ → ℕ
location_after address index = (address + index) % 65536

-- the beginning of a line, with the location of its first byte, before the first of every eight bytes; nothing before the others
abbrev pub line_start : ℕ → ℕ → Bytes
line_start address index =
    if index % 8 == 0 then codes "\n  " ++ octal_text (location_after address index) else []

-- the text of the byte at this index: a blank and its three digits, after the beginning of a line if the byte is the first of a line
abbrev pub octet : ℕ → ℕ → ℕ → Bytes
octet address index byte = line_start address index ++ 32 ∷ octal3 byte

-- the text of these bytes, where the first byte has this index
abbrev pub octets_from : ℕ → ℕ → Bytes → Bytes
octets_from address index [] = []
octets_from address index (byte ∷ bytes) = octet address index byte ++ octets_from address (index + 1) bytes

-- the text of these bytes, with the first byte at this address
abbrev pub octets : ℕ → Bytes → Bytes
octets address bytes = octets_from address 0 bytes

-- The bytes of an object's text as instructions, with its relocations beside them: a relocation that applies to a byte of the text
-- follows the line that shows this byte, and the other relocations follow all lines. Operands and words of data show what they refer to. (What
-- a relocation applies to: RT-11 Volume and File Formats Manual, "Object file format", RLD block. The lines are this project's own.)
use Rattle.std.specs.Prelude.{ℕ, zero, suc, ◌+◌, ◌-◌, Bool, false, if◌then◌else◌, nat_le, nat_lt, List, [], ◌∷◌, ◌++◌}
use Rattle.std.specs.List.{flat_map}
use Rattle.m11_base.specs.Devices.{Bytes}
use Rattle.m11_base_disassembly.specs.declared.references.References.{References}
use Rattle.m11_obj.specs.declared.relocations.Relocation.{Relocation}
use Rattle.m11_dump.specs.Instructions.{front_size, line_text}
use Rattle.m11_dump.specs.Octets.{location_after}
use Rattle.m11_dump.specs.Relocations.{names_byte, relocation_line, stores}

-- ---- the bytes that relocations apply to

-- the line of a relocation of the text at this address, if the value that it stores begins at the byte with this index; otherwise
-- nothing
abbrev pub place_at : ℕ → ℕ → Relocation → Bytes
place_at address index relocation = if names_byte index relocation then relocation_line address relocation else []

-- the lines of those relocations whose values begin at the byte with this index, in the order of the list
abbrev pub places_at : ℕ → List Relocation → ℕ → Bytes
places_at address relocations index = flat_map (place_at address index) relocations

-- whether a relocation stores a value that begins at one of the first `count` bytes of its text
abbrev pub names_any : ℕ → Relocation → Bool
names_any count relocation =
    if stores relocation.target then (if nat_le 4 relocation.displacement then nat_lt relocation.displacement (count + 4) else false)
    else false

-- the line of a relocation that applies to none of the first `count` bytes, since it is a command on the location counter or its value is
-- stored elsewhere; nothing for any other relocation
abbrev pub other_place : ℕ → ℕ → Relocation → Bytes
other_place address count relocation = if names_any count relocation then [] else relocation_line address relocation

abbrev pub other_places : ℕ → ℕ → List Relocation → Bytes
other_places address count relocations = flat_map (other_place address count) relocations

-- ---- lines of instructions with other lines among them

-- the line that begins with the first of these bytes, which lies at this location, with the references of the statement's words; nothing if
-- the previous line shows that byte
abbrev pub line_at : References → ℕ → ℕ → Bytes → Bytes
line_at references location zero bytes = line_text [] references location bytes
line_at references location (suc shown) bytes = []

-- how many of the bytes after the first one are shown by the line that shows the first one: the line that begins there, or the previous
-- line
abbrev pub left_at : References → ℕ → ℕ → Bytes → ℕ
left_at references location zero bytes = front_size references location bytes - 1
left_at references location (suc shown) bytes = shown

-- the lines that begin among these bytes, with other lines among them: at each byte the line that begins there, if any, with the references
-- for the byte's index, is followed by the lines of `others` for that index. The first byte has this index, the previous line shows the first
-- `shown` bytes, and `beyond` follows the bytes
abbrev pub lines_beside : (ℕ → References) → (ℕ → Bytes) → ℕ → ℕ → ℕ → Bytes → Bytes → Bytes
lines_beside references others address index shown [] beyond = []
lines_beside references others address index shown (byte ∷ bytes) beyond =
    line_at (references index) (location_after address index) shown ((byte ∷ bytes) ++ beyond) ++ (others index
    ++ lines_beside references others address (index + 1)
    (left_at (references index) (location_after address index) shown ((byte ∷ bytes) ++ beyond)) bytes beyond)

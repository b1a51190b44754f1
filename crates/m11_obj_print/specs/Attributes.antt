-- The attributes of a section as a text. (This project's own: their names, separated by commas.)
use Rattle.std.specs.Prelude.{ℕ}
use Rattle.std.specs.List.{join_with_byte}
use Rattle.m11_base.specs.Devices.{Bytes}
use Rattle.m11_obj.specs.Attributes.{attributes, names_among}

-- the names of the attributes in the bits of a flags byte, separated by commas
abbrev pub attributes_text : ℕ → Bytes
attributes_text bits = join_with_byte 0o54 (names_among attributes bits)

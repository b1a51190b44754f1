-- Names as they are written in a source. (MACRO-11 Language Reference Manual, "Symbols".)
use Rattle.std.specs.Prelude.{◌==◌, not, Bool, if◌then◌else◌, [], ◌∷◌, slice_index}
use Rattle.m11_base.specs.Devices.{Bytes}
use Rattle.m11_base.specs.Rad50.{Name, name_text}

-- a name up to its first space
abbrev pub bare_name : Bytes → Bytes
bare_name [] = []
bare_name (character ∷ characters) = if character == 32 then [] else character ∷ bare_name characters

-- a name can be written: it doesn't begin with a space
abbrev pub is_written : Name → Bool
is_written name = not (slice_index (name_text name) 0 == 32)

-- The lines of a text. (This project's own.)
use Rattle.std.specs.Prelude.{ℕ, ◌==◌, if◌then◌else◌, List, [], ◌∷◌, Option, Some, None}
use Rattle.std.specs.Str.{bytes_eq}
use Rattle.m11_base.specs.Devices.{Bytes}

abbrev pub longer : ℕ → List Bytes → List Bytes
longer byte [] = (byte ∷ []) ∷ []
longer byte (line ∷ lines) = (byte ∷ line) ∷ lines

-- the lines of a text without their line feeds; the last line may lack one
abbrev pub lines_of : Bytes → List Bytes
lines_of [] = []
lines_of (byte ∷ bytes) = if byte == 10 then [] ∷ lines_of bytes else longer byte (lines_of bytes)

-- the lines after the first one that equals `word`; None if no line does
abbrev pub lines_after : Bytes → List Bytes → Option (List Bytes)
lines_after word [] = None
lines_after word (line ∷ lines) = if bytes_eq line word then Some lines else lines_after word lines

-- Printed lines. (This project's own: no line ends with blanks.)
use Rattle.std.specs.Prelude.{[], ◌∷◌, ◌++◌}
use Rattle.m11_base.specs.Blanks.{without_last_blanks}
use Rattle.m11_base.specs.Devices.{Bytes}

-- a text without the blanks at its end, and with a line feed
abbrev pub line_of : Bytes → Bytes
line_of text = without_last_blanks text ++ 0o12 ∷ []

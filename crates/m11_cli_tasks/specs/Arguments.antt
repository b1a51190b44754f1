-- The line for a word that isn't UTF-8. (This project's own.)
use Rattle.std.specs.Prelude.{◌++◌, ℕ, codes}
use Rattle.std.specs.Fmt.{decimal}
use Rattle.m11_base.specs.Devices.{Bytes}

-- the line that reports the word with this number; the program's name is word 0
unfoldable pub refusal_line : ℕ → Bytes
refusal_line number = codes "error: word " ++ decimal number ++ codes " is not valid UTF-8\n"

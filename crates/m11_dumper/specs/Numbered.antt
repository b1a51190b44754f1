-- Parts of lines: a fault with its number and name, and a path. (This project's own.)
use Rattle.std.specs.Prelude.{ℕ, [], ◌∷◌, ◌++◌}
use Rattle.std.specs.Fmt.{decimal}
use Rattle.m11_base.specs.Devices.{Bytes}

-- a word, a number in decimal, a space and a name
abbrev pub numbered : Bytes → ℕ → Bytes → Bytes
numbered word number name = ((word ++ decimal number) ++ 32 ∷ []) ++ name

-- a word, a path and a line feed
abbrev pub path_end : Bytes → Bytes → Bytes
path_end word path = (word ++ path) ++ 10 ∷ []

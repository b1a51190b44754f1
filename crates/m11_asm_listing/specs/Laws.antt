-- Properties of printed lines. (This project's own.)
use Rattle.std.specs.Prelude.{◌≢◌, [], ◌∷◌, ◌++◌}
use Rattle.m11_base.specs.Devices.{Bytes}

-- no blank precedes the line feed at the end
abbrev pub EndsWithNoBlank : Bytes → Type 0
EndsWithNoBlank line = (front : Bytes) → line ≢ front ++ 0o40 ∷ 0o12 ∷ []

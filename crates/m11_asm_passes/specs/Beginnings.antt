-- Two lists of lines, of which one begins with the other. (This project's own.)
use Rattle.std.specs.Prelude.{◌≡◌, List, ◌++◌}
use Rattle.m11_asm_passes.specs.Lines.{NumberedLine}

-- the first of two lists of lines begins with the second
abbrev pub BeginWith : List NumberedLine → List NumberedLine → Type 0
BeginWith lines first = (further : List NumberedLine) × (lines ≡ first ++ further)

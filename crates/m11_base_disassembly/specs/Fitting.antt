-- How many lines of listings were found to fit an address and the word there. (This project's own.)
use Rattle.std.specs.Prelude.{◌≡◌, ◌≤◌, List, [], ◌∷◌, length}
use Rattle.m11_base_disassembly.specs.ListedLines.{ListedLine}
use Rattle.m11_base_disassembly.specs.declared.listed_lines.Fitting.{Fitting}
use Rattle.m11_base_disassembly.specs.declared.listed_lines.Fitting.TheVariants.{Nothing, Single, Several}

-- these lines were found: none; one, with this text; or at least two
abbrev pub Fits : Fitting → List ListedLine → Type 0
Fits Nothing lines = lines ≡ []
Fits (Single text) lines = (line : ListedLine) × (lines ≡ line ∷ []) × (line.text ≡ text.now)
Fits Several lines = 2 ≤ length lines

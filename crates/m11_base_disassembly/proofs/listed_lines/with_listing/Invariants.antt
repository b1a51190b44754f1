use Rattle.std.proofs.Common.{◌≡◌, List, ◌++◌, length, map}
use Rattle.std.specs.List.{filter}
use Rattle.m11_base_disassembly.specs.Fitting.{Fits}
use Rattle.m11_base_disassembly.specs.ListedLines.{ListedLine, fits, line_of}
use Rattle.m11_base_disassembly.proofs.listed_lines.with_listing.Given as goal

abbrev pub invariant-lines : goal.invariant-lines
invariant-lines l = (before : List ListedLine) → Fits l.fn.found before → (done : List ListedLine) × Fits l.found (before ++ done)
    × (filter (fits l.fn.address l.fn.word l.parts) (map line_of l.fn.listing.lines.items)
    ≡ done ++ filter (fits l.fn.address l.fn.word l.parts) (map line_of l.rest))

abbrev pub decreases-lines : goal.decreases-lines
decreases-lines l = length l.rest

use Rattle.std.proofs.Common.{◌≡◌, List, ◌++◌, length, map}
use Rattle.m11_base_disassembly.specs.Fitting.{Fits}
use Rattle.m11_base_disassembly.specs.ListedLines.{ListedLine, fitting, listing_of}
use Rattle.m11_base_disassembly.proofs.listed_lines.listed_text.Given as goal

abbrev pub invariant-listings : goal.invariant-listings
invariant-listings l = (done : List ListedLine) × Fits l.found done
    × (fitting l.fn.address l.fn.word (map listing_of l.fn.listings) ≡ done ++ fitting l.fn.address l.fn.word (map listing_of l.rest))

abbrev pub decreases-listings : goal.decreases-listings
decreases-listings l = length l.rest

use Rattle.std.proofs.Common.{arith, ap, ◌∙◌, List, ℕ}
use Rattle.m11_scan.proofs.ShortLines.{front_copied}
use Rattle.m11_scan.proofs.line.Line.copy_from.Goals as goal

pub returns-then-other-le-SHORT : goal.returns-then-other-le-SHORT
returns-then-other-le-SHORT c =
    ap (λ (t : List ℕ). record { text = t; is_over_long = c.other.inside.is_over_long })
    (front_copied c.other.inside.length 48 c.copy_from_slice.new.self _ c.other.inside.bytes (omega arith) (omega arith)
    c.copy_from_slice.ensures.after)
    ∙ c.other.view_is

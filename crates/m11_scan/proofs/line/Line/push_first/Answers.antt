use Rattle.std.proofs.Common.{arith, ap, sym, ◌∙◌, take, List, ℕ}
use Rattle.m11_scan.specs.Line.{SourceLine, with_bytes}
use Rattle.m11_scan.proofs.ShortLines.{front_copied, begun}
use Rattle.m11_scan.proofs.line.Line.push_first.Goals as goal

pub returns-then-text-ge-SHORT : goal.returns-then-text-ge-SHORT
returns-then-text-ge-SHORT c =
    ap (λ (t : List ℕ). record { text = t; is_over_long = c.self.inside.is_over_long })
    (front_copied c.args.count 48 c.copy_from_slice.new.self _ c.args.text.now (omega arith) (omega arith)
    c.copy_from_slice.ensures.after)
    ∙ begun c.self.inside.is_over_long c.args.count c.args.text.now (omega arith) c.requires
    ∙ ap (λ (l : SourceLine). with_bytes l (take c.args.count c.args.text.now))
    (ap (λ (n : ℕ). record { text = take n c.self.inside.bytes; is_over_long = c.self.inside.is_over_long })
    (sym c.if-self-eq0.true)
    ∙ c.self.view_is)

use Rattle.std.proofs.Common.{◌∙◌, ap, sym}
use Rattle.m11_scan.specs.Line.{SourceLine, with_bytes}
use Rattle.m11_unfold_bodies.proofs.WithoutFormals.{whole_text}
use Rattle.m11_unfold_bodies.proofs.substitution.substitute.Goals as goal

pub returns-then-is_empty : goal.returns-then-is_empty
returns-then-is_empty c =
    c.push_all.ensures ∙ ap (λ (l : SourceLine). with_bytes l c.args.text.now) c.clear.ensures
    ∙ whole_text c.args.actuals.now c.args.formals.now c.args.text.now (sym c.is_empty.ensures ∙ c.if-is_empty.true)

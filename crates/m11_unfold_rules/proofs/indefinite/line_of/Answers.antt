use Rattle.std.proofs.Common.{◌≤◌, length, List, ℕ, take, subst, ap, ◌∙◌}
use Rattle.m11_scan.specs.Line.{SourceLine}
use Rattle.m11_unfold_rules.proofs.Insides.{inside_whole}
use Rattle.m11_unfold_rules.proofs.indefinite.line_of.Goals as goal

pub returns : goal.returns
returns c =
    let P : List ℕ → Type 0 = λ t. length t ≤ 132 in
    ap (λ (l : SourceLine). l.text) c.from_bytes.ensures
    ∙ ap (λ (t : List ℕ). take 132 t) c.text-text.ensures
    ∙ inside_whole c.args.line.now.text c.args.actual.now.inside.start c.args.actual.now.inside.end 132
    (subst P c.text-whole.ensures.text c.text-whole.ensures.limited)

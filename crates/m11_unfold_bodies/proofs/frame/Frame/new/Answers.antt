use Rattle.std.proofs.Common.{◌∙◌, ap, sym, arith, length, ℕ, List}
use Rattle.m11_unfold_bodies.specs.Bodies.{Template}
use Rattle.m11_unfold_bodies.specs.Frames.{of_rounds}
use Rattle.m11_unfold_bodies.proofs.Stacks.{no_body}
use Rattle.m11_unfold_bodies.proofs.frame.Frame.new.Goals as goal

pub returns-then-len-eq0-clause-lines : goal.returns-then-len-eq0-clause-lines
returns-then-len-eq0-clause-lines c =
    let same = ap (λ (l : List (List ℕ)). length l) c.body.ensures in
    let length_is = ap (λ (t : Template). length t.body) c.deref.ensures in
    ap (λ (r : List (List (List ℕ))). of_rounds c.args.template.value.formals c.args.template.value.body
    c.args.template.value.body r) c.clear.ensures
    ∙ sym (no_body c.args.template.value.formals c.args.template.value.body c.args.rounds
    (omega (arith, same, length_is, c.len.ensures, c.if-len-eq0.true)))

use Rattle.std.proofs.Common.{◌∙◌, ℕ, List, ap, length, get_or, [], refl}
use Rattle.m11_unfold_bodies.specs.Bodies.{Template}
use Rattle.m11_unfold_bodies.proofs.Stacks.{at_end, frame_at}
use Rattle.m11_unfold_bodies.proofs.frame.Frame.next.Goals as goal

pub returns-then-self-lines-clause-some : goal.returns-then-self-lines-clause-some
returns-then-self-lines-clause-some c =
    let frame = c.self.inside in
    let template = frame.template.value in
    let named = c.formals.ensures ∙ ap (λ (t : Template). t.formals) c.deref-2.ensures in
    let read = c.text.ensures ∙ ap (λ (l : List (List ℕ)). get_or l frame.index []) c.body-2.ensures
    ∙ ap (λ (t : Template). get_or t.body frame.index []) c.deref-3.ensures in
    let count = c.len-lines.ensures ∙ ap (λ (l : List (List ℕ)). length l) c.body.ensures ∙ ap (λ (t : Template). length t.body) c.deref.ensures in
    λ left. at_end template frame.mark frame.index frame.rounds c.formals.result.now c.in-Some.actuals.now c.text.result.now
    c.substitute.new.line c.args.self.now (frame_at template frame.mark 0 c.pass.new.self) c.self.view_is c.substitute.ensures
    named read c.in-Some.ensures.some c.self.invariant c.pass.new.self refl c.pass.ensures (c.if-self-lines.true ∙ count)

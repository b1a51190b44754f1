use Rattle.std.proofs.Common.{◌∷◌, ◌∙◌, ap, refl, sym}
use Rattle.m11_unfold_bodies.specs.Frames.{Frame, line_left, line_where, stacked}
use Rattle.m11_unfold_bodies.specs.Left.{End}
use Rattle.m11_unfold_bodies.proofs.Innermost.{ends_after, one_end}
use Rattle.m11_unfold_bodies.proofs.Stacks.{expanding-last, no_statement, takes_end, takes_line}
use Rattle.m11_unfold_bodies.proofs.left.RemainingLines.take_expanded.Goals as goal

pub returns-then-next-clause-taken : goal.returns-then-next-clause-taken
returns-then-next-clause-taken c =
    let i = c.self.inside in
    let fed = line_where i.has_fed i.fed in
    let was = no_statement i.statement (rw (← c.self.view_is) at c.requires.free) in
    let last = ends_after i.frames.items c.in_ok-frame.frame.now c.next.new.self i.frames.len i.frames.ok.0
    (c.in_ok-frame.ensures.variant.0 refl) c.in_ok-frame.ensures.value in
    rw (← c.self.view_is, was, last.changed) (
      takes_line fed i.frames.items last.front c.in_ok-frame.frame.now last.items_are c.next.new.line
          c.next.new.self (c.if-next.ensures.some refl) c.next.ensures.mark,
      sym (expanding-last last.front c.next.new.self fed),
    )

pub returns-clause-taken : goal.returns-clause-taken
returns-clause-taken c =
    let i = c.self.inside in
    let fed = line_where i.has_fed i.fed in
    let was = no_statement i.statement (rw (← c.self.view_is) at c.requires.free) in
    let last = ends_after i.frames.items c.in_ok-frame.frame.now c.next.new.self i.frames.len i.frames.ok.0
    (c.in_ok-frame.ensures.variant.0 refl) c.in_ok-frame.ensures.value in
    let popped = one_end last.front c.pop.new.self.items c.next.new.self c.in_ok-frame-2.frame
    (sym last.changed ∙ c.in_ok-frame-2.ensures.items) in
    rw (← c.self.view_is, was) (
    takes_end fed i.frames.items last.front c.in_ok-frame.frame.now last.items_are (c.if-next.ensures.none refl)
    ∙ ap (λ (l : _). End c.in_ok-frame.frame.now.mark ∷ stacked l (line_left fed)) popped.0
    ∙ ap (λ m. End m ∷ stacked c.pop.new.self.items (line_left fed))
    (sym (c.into_mark.ensures ∙ ap (λ (f : Frame). f.mark) (sym popped.1) ∙ c.next.ensures.mark)))

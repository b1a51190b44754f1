use Rattle.std.proofs.Common.{◌≡◌, ◌∙◌, false, sym, None}
use Rattle.m11_unfold_bodies.specs.Frames.{has_frame, line_where}
use Rattle.m11_unfold_bodies.proofs.Stacks.{expanding-remains, none_fed, one_fed}
use Rattle.m11_unfold_bodies.proofs.left.RemainingLines.take_fed.Goals as goal

pub returns-then-not-self-clause-taken : goal.returns-then-not-self-clause-taken
returns-then-not-self-clause-taken c =
    let i = c.self.inside in
    let free = rw (← c.self.view_is) at c.requires.free in
    let bare = sym (expanding-remains i.statement i.frames.items (line_where i.has_fed i.fed)) ∙ rw (← c.self.view_is) at c.requires.unexpanded in
    let none = none_fed i.statement i.frames.items i.has_fed i.fed free bare c.if-not-self.true in
    rw (← c.self.view_is) (none, none)

pub returns-clause-taken : goal.returns-clause-taken
returns-clause-taken c =
    let i = c.self.inside in
    let free = rw (← c.self.view_is) at c.requires.free in
    let bare : has_frame i.frames.items ≡ false = sym (expanding-remains i.statement i.frames.items (line_where i.has_fed i.fed)) ∙ rw (← c.self.view_is) at c.requires.unexpanded in
    let one = one_fed i.statement i.frames.items i.has_fed i.fed free bare c.if-not-self.false in
    rw (← c.self.view_is, c.copy_from.ensures) (one, sym (expanding-remains i.statement i.frames.items None ∙ bare))

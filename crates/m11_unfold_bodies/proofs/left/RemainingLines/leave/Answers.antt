use Rattle.std.proofs.Common.{◌∙◌, ap}
use Rattle.m11_unfold_bodies.specs.Frames.{stacked, line_left, line_where}
use Rattle.m11_unfold_bodies.proofs.Stacks.{leaves}
use Rattle.m11_unfold_bodies.proofs.left.RemainingLines.leave.Goals as goal

pub returns-in-Some-clause-left : goal.returns-in-Some-clause-left
returns-in-Some-clause-left c =
    let popped = c.in-Some.ensures.items in
    rw (← c.self.view_is)
    (ap (λ f. stacked f (line_left (line_where c.self.inside.has_fed c.self.inside.fed))) c.push_reserved.ensures.items
    ∙ leaves (line_where c.self.inside.has_fed c.self.inside.fed) c.self.inside.frames.items c.pop.new.self.items c.in-Some.frame popped c.self.inside.statement
    c.leave.new.self c.leave.ensures.lines c.leave.ensures.mark)

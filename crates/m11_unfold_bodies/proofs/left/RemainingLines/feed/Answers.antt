use Rattle.m11_unfold_bodies.specs.Frames.{line_where}
use Rattle.m11_unfold_bodies.proofs.Stacks.{feeds}
use Rattle.m11_unfold_bodies.proofs.left.RemainingLines.feed.Goals as goal

pub returns-clause-left : goal.returns-clause-left
returns-clause-left c =
    let fed = line_where c.self.inside.has_fed c.self.inside.fed in
    rw c.copy_from.ensures
    (feeds c.self.inside.statement c.self.inside.frames.items fed c.args.line.now (rw (← c.self.view_is) at c.requires))

use Rattle.std.proofs.Common.{◌∙◌, ap, sym, length}
use Rattle.m11_unfold_bodies.specs.Frames.{line_where}
use Rattle.m11_unfold_bodies.proofs.Stacks.{depth-remains}
use Rattle.m11_unfold_bodies.proofs.left.RemainingLines.depth.Goals as goal

pub returns-clause-depth : goal.returns-clause-depth
returns-clause-depth c = rw (← c.self.view_is) (ap length c.as_slice.ensures.value ∙ sym (depth-remains c.self.inside.statement c.self.inside.frames.items (line_where c.self.inside.has_fed c.self.inside.fed)))

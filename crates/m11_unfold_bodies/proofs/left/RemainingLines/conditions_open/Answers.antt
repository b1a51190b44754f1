use Rattle.std.proofs.Common.{◌∙◌, ap, sym}
use Rattle.m11_unfold_bodies.specs.Frames.{conditions_from, line_where}
use Rattle.m11_unfold_bodies.proofs.Stacks.{conditions-remains}
use Rattle.m11_unfold_bodies.proofs.left.RemainingLines.conditions_open.Goals as goal

pub returns : goal.returns
returns c =
    rw (← c.self.view_is)
    (c.conditions_open.ensures ∙ ap (conditions_from 0) c.as_slice.ensures.value ∙ sym (conditions-remains c.self.inside.statement c.self.inside.frames.items (line_where c.self.inside.has_fed c.self.inside.fed)))

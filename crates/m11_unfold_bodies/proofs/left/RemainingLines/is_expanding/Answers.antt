use Rattle.std.proofs.Common.{◌∙◌, ap, sym}
use Rattle.m11_unfold_bodies.specs.Frames.{has_frame, line_where}
use Rattle.m11_unfold_bodies.proofs.Stacks.{expanding-remains}
use Rattle.m11_unfold_bodies.proofs.left.RemainingLines.is_expanding.Goals as goal

pub returns : goal.returns
returns c =
    rw (← c.self.view_is)
    (c.has_frame.ensures ∙ ap (has_frame) c.as_slice.ensures.value ∙ sym (expanding-remains c.self.inside.statement c.self.inside.frames.items (line_where c.self.inside.has_fed c.self.inside.fed)))

use Rattle.std.proofs.Common.{◌∙◌, ap, sym}
use Rattle.m11_unfold_bodies.specs.Frames.{bytes_from, line_where}
use Rattle.m11_unfold_bodies.proofs.Stacks.{bytes-remains}
use Rattle.m11_unfold_bodies.proofs.left.RemainingLines.bytes_held.Goals as goal

pub returns : goal.returns
returns c =
    rw (← c.self.view_is)
    (c.bytes_held.ensures ∙ ap (bytes_from 0) c.as_slice.ensures.value ∙ sym (bytes-remains c.self.inside.statement c.self.inside.frames.items (line_where c.self.inside.has_fed c.self.inside.fed)))

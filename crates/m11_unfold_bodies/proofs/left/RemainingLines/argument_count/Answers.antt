use Rattle.std.proofs.Common.{◌∙◌, ap, sym, None}
use Rattle.m11_unfold_bodies.specs.Frames.{count_from, line_where}
use Rattle.m11_unfold_bodies.proofs.Stacks.{count-remains}
use Rattle.m11_unfold_bodies.proofs.left.RemainingLines.argument_count.Goals as goal

pub returns : goal.returns
returns c =
    rw (← c.self.view_is)
    (c.argument_count.ensures ∙ ap (count_from None) c.as_slice.ensures.value ∙ sym (count-remains c.self.inside.statement c.self.inside.frames.items (line_where c.self.inside.has_fed c.self.inside.fed)))

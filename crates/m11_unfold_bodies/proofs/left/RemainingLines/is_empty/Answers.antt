use Rattle.std.proofs.Common.{◌∙◌}
use Rattle.m11_unfold_bodies.proofs.Nothing.{empty-remains}
use Rattle.m11_unfold_bodies.proofs.left.RemainingLines.is_empty.Goals as goal

pub returns : goal.returns
returns c =
    let i = c.self.inside in
    let asked = rw (c.is_some.ensures, c.has_frame.ensures, c.as_slice.ensures.value) at c.is_none_of.ensures in
    rw (← c.self.view_is) (asked ∙ empty-remains i.statement i.frames.items i.has_fed i.fed)

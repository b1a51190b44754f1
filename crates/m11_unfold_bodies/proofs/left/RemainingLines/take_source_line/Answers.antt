use Rattle.std.proofs.Common.{◌≡◌, ◌∙◌, false, sym, None}
use Rattle.m11_unfold_bodies.specs.Frames.{has_frame, is_there, line_where}
use Rattle.m11_unfold_bodies.proofs.Stacks.{expanding-remains, one_fed}
use Rattle.m11_unfold_bodies.proofs.left.RemainingLines.take_source_line.Goals as goal

pub returns-clause-taken : goal.returns-clause-taken
returns-clause-taken c _ =
    let i = c.self.inside in
    let free : is_there i.statement ≡ false = sym c.is_some.ensures ∙ c.if-is_some.false in
    let bare : has_frame i.frames.items ≡ false = sym (expanding-remains i.statement i.frames.items (line_where i.has_fed i.fed))
    ∙ rw (← c.self.view_is) at (sym c.is_expanding.ensures ∙ c.if-is_expanding.false) in
    let one = one_fed i.statement i.frames.items i.has_fed i.fed free bare c.if-not-self.false in
    rw (← c.self.view_is, c.copy_from.ensures) (one, sym (expanding-remains i.statement i.frames.items None ∙ bare))

use Rattle.m11_trace.specs.Lines.{register_changes}
use Rattle.m11_trace.proofs.Pieces.{seven_put}
use Rattle.m11_trace.proofs.lines.add_registers.Goals as goal

pub returns-clause-items : goal.returns-clause-items
unfolding register_changes
returns-clause-items c =
    seven_put _ _ _ _ _ _ _ _ _ _ _ _ _ _ _ c.add_change.ensures.items c.add_change-2.ensures.items c.add_change-3.ensures.items
    c.add_change-4.ensures.items c.add_change-5.ensures.items c.add_change-6.ensures.items c.add_change-7.ensures.items

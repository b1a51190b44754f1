use Rattle.m11_link.specs.Front.{map_writes}
use Rattle.m11_link.specs.Outputs.{link}
use Rattle.m11_base_writes.proofs.Writing.{stopped_first, writes_then}
use Rattle.m11_link.proofs.front.put_map_lines.Goals as goal

pub returns-in_err-put_sections-clause-writes : goal.returns-in_err-put_sections-clause-writes
unfolding map_writes
returns-in_err-put_sections-clause-writes g c = λ tape messages.
    stopped_first link _ _ _ _ _ _ (c.in_err-put_sections.ensures.writes tape messages) c.from_residual.ensures.1

pub returns-in_err-put_globals-clause-writes : goal.returns-in_err-put_globals-clause-writes
unfolding map_writes
returns-in_err-put_globals-clause-writes g c = λ tape messages.
    writes_then link _ _ _ _ _ _ (c.in_ok-put_sections.ensures.writes tape messages)
    (stopped_first link _ _ _ _ _ _ (c.in_err-put_globals.ensures.writes tape messages) c.from_residual-in_err-put_globals.ensures.1)

pub returns-in_err-put_undefined_names-clause-writes : goal.returns-in_err-put_undefined_names-clause-writes
unfolding map_writes
returns-in_err-put_undefined_names-clause-writes g c = λ tape messages.
    writes_then link _ _ _ _ _ _ (c.in_ok-put_sections.ensures.writes tape messages)
    (writes_then link _ _ _ _ _ _ (c.in_ok-put_globals.ensures.writes tape messages)
    (stopped_first link _ _ _ _ _ _ (c.in_err-put_undefined_names.ensures.writes tape messages) c.from_residual-in_err-put_undefined_names.ensures.1))

pub returns-in_err-put_weak_names-clause-writes : goal.returns-in_err-put_weak_names-clause-writes
unfolding map_writes
returns-in_err-put_weak_names-clause-writes g c = λ tape messages.
    writes_then link _ _ _ _ _ _ (c.in_ok-put_sections.ensures.writes tape messages)
    (writes_then link _ _ _ _ _ _ (c.in_ok-put_globals.ensures.writes tape messages)
    (writes_then link _ _ _ _ _ _ (c.in_ok-put_undefined_names.ensures.writes tape messages)
    (stopped_first link _ _ _ _ _ _ (c.in_err-put_weak_names.ensures.writes tape messages) c.from_residual-in_err-put_weak_names.ensures.1)))

pub returns-clause-writes : goal.returns-clause-writes
unfolding map_writes
returns-clause-writes g c = λ tape messages.
    writes_then link _ _ _ _ _ _ (c.in_ok-put_sections.ensures.writes tape messages)
    (writes_then link _ _ _ _ _ _ (c.in_ok-put_globals.ensures.writes tape messages)
    (writes_then link _ _ _ _ _ _ (c.in_ok-put_undefined_names.ensures.writes tape messages)
    (writes_then link _ _ _ _ _ _ (c.in_ok-put_weak_names.ensures.writes tape messages) (c.put_last_lines.ensures.writes tape messages))))

use Rattle.m11_link.specs.Front.{front_writes}
use Rattle.m11_link.proofs.Counting.{front_counted}
use Rattle.m11_link.specs.Outputs.{link}
use Rattle.m11_base_writes.proofs.Writing.{stopped_first, stopped_alone, gains_then, writes_then}
use Rattle.m11_link.proofs.front.put_front.Goals as goal

pub returns-in_err-reported-clause-writes : goal.returns-in_err-reported-clause-writes
unfolding front_writes
returns-in_err-reported-clause-writes g c = λ tape.
    stopped_first link _ _ _ _ _ _ (c.in_err-reported.ensures.writes tape _) c.from_residual.ensures.1

pub returns-in_err-put_map_lines-clause-writes : goal.returns-in_err-put_map_lines-clause-writes
unfolding front_writes
returns-in_err-put_map_lines-clause-writes g c = λ tape. writes_then link _ _ _ _ _ _ (c.in_ok-reported.ensures.writes tape _)
    (stopped_alone link _ _ _ _ _ (c.in_err-put_map_lines.ensures.writes tape _) c.from_residual-in_err-put_map_lines.ensures.1)

pub returns-clause-writes : goal.returns-clause-writes
unfolding front_writes
returns-clause-writes g c = λ tape. gains_then link _ _ _ _ _ (c.in_ok-reported.ensures.writes tape _)
    (c.in_ok-put_map_lines.ensures.writes tape _)

pub returns-clause-count : goal.returns-clause-count
returns-clause-count g c = front_counted _ c.args.count c.in_ok-reported.reported c.in_ok-reported.ensures.count

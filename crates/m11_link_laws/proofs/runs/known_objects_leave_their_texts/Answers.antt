use Rattle.m11_link_laws.proofs.RunsLeft.{run_leaves}
use Rattle.m11_link_laws.proofs.runs.known_objects_leave_their_texts.Goals as goal

pub returns : goal.returns
returns g c = run_leaves g.F.Feed.text g.F.Feed.faults

use Rattle.m11_unfold_bodies.proofs.Switches.{entered_closed, past_closed, skipped_closed}
use Rattle.m11_unfold_bodies.proofs.laws.an_endc_undoes_its_if.Goals as goal

pub returns-clause-entered : goal.returns-clause-entered
returns-clause-entered c = entered_closed

pub returns-clause-skipped : goal.returns-clause-skipped
returns-clause-skipped c = skipped_closed

pub returns-clause-past : goal.returns-clause-past
returns-clause-past c = past_closed

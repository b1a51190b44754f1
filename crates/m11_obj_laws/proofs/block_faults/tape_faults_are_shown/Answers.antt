use Rattle.m11_obj_laws.proofs.TapeFaults.{between_skipped, data_refused, data_shows, refused_shows, shows_refused, skipped_between}
use Rattle.m11_obj_laws.proofs.block_faults.tape_faults_are_shown.Goals as goal

pub returns-clause-shown : goal.returns-clause-shown
returns-clause-shown c = refused_shows

pub returns-clause-found : goal.returns-clause-found
returns-clause-found c = shows_refused

pub returns-clause-shown_after : goal.returns-clause-shown_after
returns-clause-shown_after c = data_shows

pub returns-clause-found_after : goal.returns-clause-found_after
returns-clause-found_after c = data_refused

pub returns-clause-none : goal.returns-clause-none
returns-clause-none c = between_skipped

pub returns-clause-skipped : goal.returns-clause-skipped
returns-clause-skipped c = skipped_between

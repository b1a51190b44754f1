use Rattle.m11_obj_laws.proofs.RecordFaults.{refused_shows, shows_refused, read_refused}
use Rattle.m11_obj_laws.proofs.faults.record_faults_are_shown.Goals as goal

pub returns-clause-shown : goal.returns-clause-shown
returns-clause-shown c = refused_shows

pub returns-clause-found : goal.returns-clause-found
returns-clause-found c = shows_refused

pub returns-clause-returned : goal.returns-clause-returned
returns-clause-returned c = read_refused

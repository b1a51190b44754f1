use Rattle.m11_obj_laws.proofs.BlockFaults.{refused_shows, shows_refused}
use Rattle.m11_obj_laws.proofs.block_faults.block_faults_are_shown.Goals as goal

pub returns-clause-shown : goal.returns-clause-shown
returns-clause-shown c = refused_shows

pub returns-clause-found : goal.returns-clause-found
returns-clause-found c = shows_refused

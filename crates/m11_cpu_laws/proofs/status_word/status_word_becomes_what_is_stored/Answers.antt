use Rattle.m11_cpu_laws.proofs.StatusStored.{doubles_at_status, exclusives_at_status, singles_at_status}
use Rattle.m11_cpu_laws.proofs.status_word.status_word_becomes_what_is_stored.Goals as goal

pub returns-clause-doubles : goal.returns-clause-doubles
returns-clause-doubles c = doubles_at_status

pub returns-clause-singles : goal.returns-clause-singles
returns-clause-singles c = singles_at_status

pub returns-clause-exclusive : goal.returns-clause-exclusive
returns-clause-exclusive c = exclusives_at_status

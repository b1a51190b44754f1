use Rattle.m11_obj.specs.Records.{EndOfModule}
use Rattle.m11_obj.proofs.RecordsAgain.{means}
use Rattle.m11_obj.proofs.records.Record.end_of_module.Goals as goal

pub returns-clause-means : goal.returns-clause-means
returns-clause-means c = means EndOfModule _ tt c.with_type.ensures

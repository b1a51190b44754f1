use Rattle.m11_obj.specs.Records.{EndOfGsd}
use Rattle.m11_obj.proofs.RecordsAgain.{means}
use Rattle.m11_obj.proofs.records.Record.end_of_gsd.Goals as goal

pub returns-clause-means : goal.returns-clause-means
returns-clause-means c = means EndOfGsd _ tt c.with_type.ensures

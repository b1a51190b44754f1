use Rattle.m11_obj.specs.Records.{InternalSymbols}
use Rattle.m11_obj.proofs.RecordsAgain.{means}
use Rattle.m11_obj.proofs.records.Record.internal_symbols.Goals as goal

pub returns-clause-means : goal.returns-clause-means
returns-clause-means c = means InternalSymbols _ tt c.with_type.ensures

use Rattle.std.proofs.Common.{arith, rules}
use Rattle.m11_obj.specs.Records.{Text}
use Rattle.m11_obj.proofs.RecordsAgain.{means}
use Rattle.m11_obj.proofs.records.Record.text.Goals as goal

pub returns-clause-means : goal.returns-clause-means
returns-clause-means c = means (Text c.args.address c.args.bytes.now) _ (omega arith, c.requires) (search rules)

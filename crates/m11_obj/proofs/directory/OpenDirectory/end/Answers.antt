use Rattle.m11_obj.specs.Directory.{written_by}
use Rattle.m11_obj.proofs.RecordCuts.{rows_end}
use Rattle.m11_obj.proofs.directory.OpenDirectory.end.Goals as goal

pub returns : goal.returns
returns c = λ rows written h.
    (written_by c.args.self, rows_end rows written c.args.self h, c.record.ensures)

use Rattle.m11_obj.proofs.InRecords.{holds_rows}
use Rattle.m11_obj.proofs.laws.records_hold_the_rows.Goals as goal

pub returns : goal.returns
returns c = holds_rows

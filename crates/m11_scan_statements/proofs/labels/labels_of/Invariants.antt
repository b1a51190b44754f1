use Rattle.std.proofs.Common.{◌≡◌, ◌≤◌, ◌-◌, ◌*◌, ◌++◌}
use Rattle.arrayvec.specs.ArrayVec.{array_vec_len}
use Rattle.m11_scan.specs.Cutting.{tokens_from}
use Rattle.m11_scan_statements.specs.Labels.{labels_at, labels_in}
use Rattle.m11_scan_statements.proofs.labels.labels_of.Given as goal

abbrev pub invariant-labels : goal.invariant-labels
invariant-labels l = record {
  all : l.list.items ++ labels_in (tokens_from l.line.text l.end) ≡ labels_at l.line.text;
  room : array_vec_len l.list * 2 ≤ l.end;
}

abbrev pub decreases-labels : goal.decreases-labels
decreases-labels l = 256 - l.end

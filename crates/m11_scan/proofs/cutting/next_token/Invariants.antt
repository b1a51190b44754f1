use Rattle.std.proofs.Common.{◌≡◌, ◌≤◌, ◌-◌, length}
use Rattle.m11_scan.specs.Cutting.{tokens_from}
use Rattle.m11_scan.proofs.cutting.next_token.Given as goal

abbrev pub invariant-pieces : goal.invariant-pieces
invariant-pieces l = record {
  same : tokens_from l.line.text l.begin ≡ tokens_from l.line.text l.column;
  after : l.column ≤ l.begin;
}

abbrev pub decreases-pieces : goal.decreases-pieces
decreases-pieces l = length l.text - l.begin

use Rattle.std.proofs.Common.{◌≡◌, ◌-◌}
use Rattle.m11_scan.specs.Cutting.{tokens_from}
use Rattle.m11_scan_statements.specs.Listed.{passed_over}
use Rattle.m11_scan_statements.proofs.listed.passed_over.Given as goal

abbrev pub invariant-tokens : goal.invariant-tokens
invariant-tokens l = record {
  element : passed_over l.end (tokens_from l.line.text l.end) ≡ passed_over l.column (tokens_from l.line.text l.column);
}

abbrev pub decreases-tokens : goal.decreases-tokens
decreases-tokens l = 256 - l.end

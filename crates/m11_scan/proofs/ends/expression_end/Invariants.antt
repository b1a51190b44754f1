use Rattle.std.proofs.Common.{◌≡◌, ◌≤◌, ◌-◌}
use Rattle.m11_scan.specs.Cutting.{tokens_from}
use Rattle.m11_scan.specs.Ends.{column_after, expression_end, taken_of}
use Rattle.m11_scan.proofs.ends.expression_end.Given as goal

abbrev pub invariant-tokens : goal.invariant-tokens
invariant-tokens l = record {
  end : column_after l.end (taken_of l.within (tokens_from l.line.text l.end)) ≡ expression_end l.line.text l.column;
  least : l.column ≤ l.end;
  deep : l.within.depth ≤ l.end;
}

abbrev pub decreases-tokens : goal.decreases-tokens
decreases-tokens l = 256 - l.end

use Rattle.std.proofs.Common.{◌≡◌, ◌+◌, ◌≤◌, length, map}
use Rattle.m11_scan.specs.Expressions.{sort_of}
use Rattle.m11_scan_expressions.specs.Reaches.{outside, term_length}
use Rattle.m11_scan_expressions.proofs.reaches.term_length.Given as goal

abbrev pub invariant-tokens : goal.invariant-tokens
invariant-tokens l = record {
  same :
      l.count + term_length l.in_bracket l.within (map sort_of l.rest)
      ≡ term_length l.in_bracket (outside l.is_due) (map sort_of l.tokens);
  all : l.count + length l.rest ≡ length l.tokens;
  deep : l.within.depth ≤ l.count;
}

abbrev pub decreases-tokens : goal.decreases-tokens
decreases-tokens l = length l.rest

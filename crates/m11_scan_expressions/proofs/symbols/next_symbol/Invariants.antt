use Rattle.std.proofs.Common.{◌≡◌, ◌≤◌, length}
use Rattle.m11_scan_expressions.specs.Symbols.{symbols_of}
use Rattle.m11_scan_expressions.proofs.symbols.next_symbol.Given as goal

abbrev pub invariant-tokens : goal.invariant-tokens
invariant-tokens l = record {
  same : symbols_of l.line.text l.rest ≡ symbols_of l.line.text l.tokens;
  within : length l.rest ≤ length l.tokens;
}

abbrev pub decreases-tokens : goal.decreases-tokens
decreases-tokens l = length l.rest

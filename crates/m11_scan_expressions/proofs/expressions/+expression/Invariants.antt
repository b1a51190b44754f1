use Rattle.std.proofs.Common.{◌+◌, ◌-◌, ◌*◌, ◌≤◌, length}
use Rattle.m11_scan_expressions.specs.Quantities.{quantity}
use Rattle.m11_scan_expressions.proofs.Exits.{ReadsOf}
use Rattle.m11_scan_expressions.proofs.expressions.+expression.Given as goal

abbrev pub decreases-expression : goal.decreases-expression
decreases-expression g l = 4 * length l.tokens.now + 3

abbrev pub decreases-first_term : goal.decreases-first_term
decreases-first_term g l = 4 * length l.tokens.now + 2

abbrev pub decreases-term : goal.decreases-term
decreases-term g l = 4 * length l.tokens.now + 1

abbrev pub decreases-any_term : goal.decreases-any_term
decreases-any_term g l = 4 * length l.tokens.now

abbrev pub invariant-expression-operators : goal.invariant-expression-operators
invariant-expression-operators g l = record {
  reads :
      ReadsOf (g.N.Names.value_of_symbol l.names) l.line.text l.in_bracket l.radix l.tokens l.length (quantity l.value);
  within : l.length ≤ length l.tokens;
}

abbrev pub decreases-expression-operators : goal.decreases-expression-operators
decreases-expression-operators g l = length l.tokens - l.length

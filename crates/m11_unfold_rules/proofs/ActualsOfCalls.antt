-- The actuals at or after a column, by the first of them.
use Rattle.std.proofs.Common.{◌≡◌, ℕ, suc, true, List, Option, Some, None, sym, ap, ◌∙◌}
use Rattle.m11_scan_statements.specs.Actuals.{next_actual, separator_at}
use Rattle.m11_scan_statements.specs.declared.actuals.Actual.{Actual}
use Rattle.m11_unfold_rules.specs.Actuals.{actuals_from, followed_by, given_by, no_actual_texts}
use Rattle.m11_unfold_rules.proofs.Cases.{wanted_by}
use Rattle.m11_scan_expressions.specs.Expressions.{KnownSymbols}

module _ (known : KnownSymbols) (line : List ℕ) (left next begin : ℕ) (is : left ≡ suc next) where
  stands : (found : Option Actual) → next_actual line begin true ≡ found
      → actuals_from known line left begin ≡ wanted_by known line (λ n. actuals_from known line next n) found
  stands found same =
      ap (λ (n : ℕ). actuals_from known line n begin) is
      ∙ ap (λ (a : Option Actual). wanted_by known line (λ n. actuals_from known line next n) a) same

  pub no_actual : next_actual line begin true ≡ None → actuals_from known line left begin ≡ no_actual_texts
  no_actual none = stands None none

  pub actual_on : (actual : Actual) (column : ℕ) → next_actual line begin true ≡ Some actual
      → column ≡ (separator_at line actual.end).end
      → actuals_from known line left begin
      ≡ followed_by (given_by known line actual) (actuals_from known line next column)
  actual_on actual column some begins =
      stands (Some actual) some
      ∙ ap (λ (n : ℕ). followed_by (given_by known line actual) (actuals_from known line next n)) (sym begins)

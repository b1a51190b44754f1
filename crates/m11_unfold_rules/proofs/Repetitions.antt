-- The remarks of a formal and of its list, added one after the other.
use Rattle.std.proofs.Common.{◌≡◌, ℕ, List, [], Option, Some, None, ap, ◌∙◌}
use Rattle.m11_scan.specs.Line.{line_limit}
use Rattle.m11_scan_statements.specs.declared.actuals.Actual.{Actual}
use Rattle.m11_unfold_rules.specs.Actuals.{ActualTexts, actuals_from}
use Rattle.m11_unfold_rules.specs.Conditions.{actual_flags, text_of}
use Rattle.m11_scan_expressions.specs.Expressions.{KnownSymbols}
use Rattle.m11_unfold_rules.specs.Indefinite.{listed_in, repeated}
use Rattle.m11_scan_expressions.specs.LeftOvers.{bad_flags, left_over, flags_before}
use Rattle.m11_scan_expressions.specs.Remarks.{Remarks, joined, remarks_of, with_flags}
use Rattle.m11_unfold_rules.specs.declared.indefinite.RepeatHeader.{RepeatHeader}
use Rattle.m11_scan_expressions.proofs.Joining.{joined_joins, joined_flags}

pub missing_noted : (line : List ℕ) (column : ℕ) (texts : Actual → ActualTexts) (begin after : Remarks) (flags : ℕ)
    (found : Option RepeatHeader) → None ≡ found → after ≡ with_flags begin flags → flags ≡ bad_flags line column
    → after ≡ joined begin (repeated line column texts found).remarks
missing_noted line column texts begin after flags found none added flag =
    added ∙ joined_flags begin flags ∙ ap (λ (l : ℕ). joined begin (remarks_of l [])) flag
    ∙ ap (λ (b : Option RepeatHeader). joined begin (repeated line column texts b).remarks) none

module _ (line : List ℕ) (column : ℕ) (texts : Actual → ActualTexts) (begin middle after : Remarks) (before last : ℕ)
    (first : middle ≡ with_flags begin before) (is : before ≡ flags_before line column) where
  pub rounds_noted : (found : Option RepeatHeader) (begun : RepeatHeader) (further : Remarks) → Some begun ≡ found
      → further ≡ joined middle (texts begun.list).remarks → after ≡ with_flags further last
      → last ≡ left_over line begun.list.end → after ≡ joined begin (repeated line column texts found).remarks
  rounds_noted found begun further some read added rest =
      let given : Remarks = (texts begun.list).remarks in
      let over : Remarks = remarks_of last [] in
      added ∙ joined_flags further last
      ∙ ap (λ (n : Remarks). joined n over) (read ∙ ap (λ (n : Remarks). joined n given) (first ∙ joined_flags begin before))
      ∙ ap (λ (n : Remarks). joined n over) (joined_joins begin (remarks_of before []) given)
      ∙ joined_joins begin (joined (remarks_of before []) given) over
      ∙ ap (λ (l : ℕ). joined begin (joined (joined (remarks_of l []) given) over)) is
      ∙ ap (λ (l : ℕ). joined begin (joined (joined (remarks_of (flags_before line column) []) given) (remarks_of l []))) rest
      ∙ ap (λ (b : Option RepeatHeader). joined begin (repeated line column texts b).remarks) some

-- the flag of the brackets, and then the remarks of the list inside them, are together the remarks of the bracketed list
pub inner_noted : (known : KnownSymbols) (line : List ℕ) (list : Actual) (begin middle : Remarks) (flags : ℕ) (text : List ℕ)
    → middle ≡ with_flags begin flags → flags ≡ actual_flags list → text ≡ text_of line list
    → joined middle (actuals_from known text line_limit 0).remarks ≡ joined begin (listed_in known line list).remarks
inner_noted known line list begin middle flags text added flag inner =
    ap (λ (t : List ℕ). joined middle (actuals_from known t line_limit 0).remarks) inner
    ∙ ap (λ (n : Remarks). joined n (actuals_from known (text_of line list) line_limit 0).remarks)
    (added ∙ joined_flags begin flags ∙ ap (λ (l : ℕ). joined begin (remarks_of l [])) flag)
    ∙ joined_joins begin (remarks_of (actual_flags list) []) (actuals_from known (text_of line list) line_limit 0).remarks

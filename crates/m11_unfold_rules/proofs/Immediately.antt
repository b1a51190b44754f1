-- The remarks of a condition and those of the comma after it are added one after the other.
use Rattle.std.proofs.Common.{◌≡◌, ℕ, List, ◌++◌, Option, ap, ◌∙◌}
use Rattle.std.specs.Int.RustNames.{bit_or}
use Rattle.m11_unfold_rules.specs.Conditions.{ConditionResult, verdict_of, remarks_in}
use Rattle.m11_unfold_rules.specs.declared.conditions.Verdict.{Verdict}
use Rattle.m11_unfold_rules.specs.Immediate.{comma_flags, column_after_comma}
use Rattle.m11_scan_expressions.specs.Remarks.{Remarks, joined, remarks_of, with_flags}
use Rattle.m11_scan_expressions.proofs.Joining.{or_joins}

pub remarked_at_once : (line : List ℕ) (begin middle after : Remarks) (asked : ConditionResult) (verdict : Verdict) (flags end : ℕ)
    → {statement : Option ℕ} → verdict ≡ verdict_of asked → middle ≡ joined begin (remarks_in asked) → end ≡ verdict.end
    → statement ≡ column_after_comma line end → flags ≡ comma_flags line end statement → after ≡ with_flags middle flags
    → after ≡ joined begin (remarks_of (bit_or asked.flags (comma_flags line asked.end (column_after_comma line asked.end))) asked.symbols)
remarked_at_once line begin middle after asked verdict flags end {statement} is noted ends begun comma added =
    let here : end ≡ asked.end = ends ∙ ap (λ (a : Verdict). a.end) is in
    let comma_is : flags ≡ comma_flags line asked.end (column_after_comma line asked.end) =
    comma ∙ ap (λ (s : Option ℕ). comma_flags line end s) begun
    ∙ ap (λ (n : ℕ). comma_flags line n (column_after_comma line n)) here in
    added ∙ ap (λ (n : Remarks). with_flags n flags) noted
    ∙ ap (λ (l : ℕ). remarks_of l (begin.symbols ++ asked.symbols)) (or_joins begin.flags asked.flags flags)
    ∙ ap (λ (l : ℕ). remarks_of (bit_or begin.flags (bit_or asked.flags l)) (begin.symbols ++ asked.symbols)) comma_is

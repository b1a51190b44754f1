-- How many formals and actuals a line has at most.
use Rattle.std.proofs.Common.{◌≡◌, ◌≤◌, ℕ, zero, suc, List, length, Option, Some, None, refl, arith}
use Rattle.std.proofs.lemmas.List.{length-append}
use Rattle.std.specs.Prelude.{true}
use Rattle.m11_unfold_rules.specs.Actuals.{ActualTexts, actuals_from, given_by}
use Rattle.m11_scan_expressions.specs.Expressions.{KnownSymbols}
use Rattle.m11_unfold_rules.specs.Headers.{Ending, FormalList, Formally, NextListed, formals_by, formals_within, header, listed_at, name_at}
use Rattle.m11_unfold_rules.specs.declared.macros.NameAt.{NameAt}
use Rattle.m11_unfold_rules.proofs.Cases.{given_as, header_by, wanted_by}
use Rattle.m11_scan.specs.Line.{line_limit}
use Rattle.m11_scan.specs.Cutting.{tokens_from}
use Rattle.m11_scan_statements.specs.Actuals.{next_actual, separator_at}
use Rattle.m11_scan_statements.specs.declared.actuals.Actual.{Actual}
use Rattle.m11_scan_statements.specs.declared.actuals.ActualKind.{ActualKind}
use Rattle.m11_scan_statements.specs.declared.actuals.ActualKind.TheVariants.{Bare, Bracketed, Digits}
use Rattle.m11_unfold.specs.Purposes.{IsFew}

one_text : (known : KnownSymbols) (line : List ℕ) (actual : Actual) (kind : ActualKind) → length (given_as known line actual kind).texts ≡ 1
one_text known line actual Bare = refl
one_text known line actual Bracketed = refl
one_text known line actual Digits = refl

one_wanted : (known : KnownSymbols) (line : List ℕ) (wanted : ℕ) (more : ℕ → ActualTexts) → ((next : ℕ) → length (more next).texts ≤ wanted)
    → (actual : Option Actual) → length (wanted_by known line more actual).texts ≤ suc wanted
one_wanted known line wanted more few None = omega arith
one_wanted known line wanted more few (Some actual) =
    let after : ActualTexts = more (separator_at line actual.end).end in
    let one = one_text known line actual actual.kind in
    let all = length-append (given_by known line actual).texts after.texts in
    let rest = few (separator_at line actual.end).end in
    omega (arith, one, all, rest)

pub few_actuals : (known : KnownSymbols) (line : List ℕ) (wanted column : ℕ) → length (actuals_from known line wanted column).texts ≤ wanted
few_actuals known line zero column = omega arith
few_actuals known line (suc wanted) column =
    one_wanted known line wanted (λ next. actuals_from known line wanted next) (λ next. few_actuals known line wanted next)
    (next_actual line column true)

one_listed : (bound : ℕ) (more : ℕ → FormalList) → ((next : ℕ) → length (more next).list ≤ bound)
    → (listed : NextListed) → length (formals_by more listed).list ≤ suc bound
one_listed bound more few (Ending flags) = omega arith
one_listed bound more few (Formally formal flags end) = let rest = few end in omega (arith, rest)

few_formals : (bound : ℕ) (line : List ℕ) (column : ℕ) → length (formals_within bound line column).list ≤ bound
few_formals zero line column = omega arith
few_formals (suc bound) line column =
    one_listed bound (λ next. formals_within bound line next) (λ next. few_formals bound line next)
    (listed_at line (separator_at line column).end)

few_told : (line : List ℕ) (column : ℕ) (name : Option NameAt) → IsFew (header_by line column name).named
few_told line column None = tt
few_told line column (Some name) = few_formals line_limit line name.end

pub few_header : (line : List ℕ) (column : ℕ) → IsFew (header line column).named
few_header line column = few_told line column (name_at (tokens_from line column))

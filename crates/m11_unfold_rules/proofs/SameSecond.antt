-- A search for a name among the rows with the same second character finds what a search among all rows finds.
use Rattle.std.proofs.Common.{◌≡◌, ℕ, Bool, true, false, cond, List, [], ◌∷◌, Option, Some, find, refl, ap, ◌∙◌, arith}
use Rattle.std.proofs.lemmas.Bool.{eq-eqb}
use Rattle.std.proofs.lemmas.Slice.Eq.{bytes_eq-Decides}
use Rattle.std.specs.List.{filter}
use Rattle.std.specs.Prelude.{◌==◌, option_map, slice_index}
use Rattle.std.specs.Str.{bytes_eq}
use Rattle.m11_unfold_rules.specs.Directives.{directive_among, directive_named, directive_rows, rows_with}
use Rattle.m11_unfold_rules.specs.declared.directives.DirectiveRow.{DirectiveRow}

abbrev has : List ℕ → DirectiveRow → Bool
has name row = bytes_eq row.name name

abbrev has_second : ℕ → DirectiveRow → Bool
has_second second row = slice_index row.name 1 == second

same_second : (name : List ℕ) (row : DirectiveRow) → has name row ≡ true → has_second (slice_index name 1) row ≡ true
same_second name row is =
    eq-eqb _ _ (ap (λ (n : List ℕ). slice_index n 1) (names row.name is))
  where
    names : (other : List ℕ) → bytes_eq other name ≡ true → other ≡ name
    names other is = grind (arith, bytes_eq-Decides)

by_tests : (name : List ℕ) (row : DirectiveRow) (group rows : List DirectiveRow) (is within : Bool) → has name row ≡ is
    → (is ≡ true → within ≡ true) → find (has name) group ≡ find (has name) rows
    → find (has name) (cond within (row ∷ group) group) ≡ cond is (Some row) (find (has name) rows)
by_tests name row group rows true true same both rest = ap (λ (b : Bool). cond b (Some row) (find (has name) group)) same
by_tests name row group rows true false same both rest = let no = both refl in grind arith
by_tests name row group rows false true same both rest =
    ap (λ (b : Bool). cond b (Some row) (find (has name) group)) same ∙ rest
by_tests name row group rows false false same both rest = rest

grouped : (name : List ℕ) (rows : List DirectiveRow)
    → find (has name) (filter (has_second (slice_index name 1)) rows) ≡ find (has name) rows
grouped name [] = refl
grouped name (row ∷ rows) =
    by_tests name row (filter (has_second (slice_index name 1)) rows) rows (has name row) (has_second (slice_index name 1) row) refl
    (same_second name row) (grouped name rows)

pub named_with : (name : List ℕ) → directive_among (rows_with (slice_index name 1)) name ≡ directive_named name
named_with name = ap (λ (r : Option DirectiveRow). option_map (λ row. row.directive) r) (grouped name directive_rows)

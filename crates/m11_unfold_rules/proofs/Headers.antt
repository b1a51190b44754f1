-- A list of formals, by its first item.
use Rattle.std.proofs.Common.{◌≡◌, ℕ, suc, List, ◌∷◌, sym, ap, ◌∙◌}
use Rattle.std.specs.Int.RustNames.{bit_or}
use Rattle.m11_scan_statements.specs.Actuals.{separator_at}
use Rattle.m11_unfold_rules.specs.Headers.{NextListed, formals_by, formals_within, listed_at}
use Rattle.m11_unfold_rules.specs.Headers.NextListed.{Formally}
use Rattle.m11_unfold_rules.specs.declared.macros.MacroFormal.{MacroFormal}

module _ (line : List ℕ) (left next end begin : ℕ) (is : left ≡ suc next) (begins : begin ≡ (separator_at line end).end) where
  pub listed_on : (found : NextListed) → found ≡ listed_at line begin
      → formals_within left line end ≡ formals_by (λ n. formals_within next line n) found
  listed_on found same =
      ap (λ (n : ℕ). formals_within n line end) is
      ∙ ap (λ (n : ℕ). formals_by (λ n. formals_within next line n) (listed_at line n)) (sym begins)
      ∙ ap (λ (f : NextListed). formals_by (λ n. formals_within next line n) f) (sym same)

  pub formal_on : (formal : MacroFormal) (flags column after : ℕ) → Formally formal flags column ≡ listed_at line begin
      → after ≡ column
      → formals_within left line end ≡ record {
        list = formal ∷ (formals_within next line after).list;
        flags = bit_or flags (formals_within next line after).flags;
      }
  formal_on formal flags column after same ends =
      listed_on (Formally formal flags column) same
      ∙ ap (λ (n : ℕ). formals_by (λ n. formals_within next line n) (Formally formal flags n)) (sym ends)

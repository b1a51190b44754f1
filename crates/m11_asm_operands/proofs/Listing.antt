-- The elements of a list that begin at a column, by the first one.
use Rattle.std.proofs.Common.{◌≡◌, ℕ, suc, Bool, true, false, not, if◌then◌else◌, List, [], ◌∷◌, ◌++◌, MatchOption, Option, Some, None, refl, ap, sym, ◌∙◌}
use Rattle.m11_scan.specs.Cutting.{tokens_from}
use Rattle.m11_scan.specs.Ends.{expression_end}
use Rattle.m11_scan.specs.Views.{lexeme}
use Rattle.m11_scan.specs.declared.cutting.Token.{Token}
use Rattle.m11_scan_expressions.specs.Tokens.{Expression, expression, expression_of}
use Rattle.m11_scan_expressions.specs.declared.exprs.Expr.{Expr}
use Rattle.m11_unfold_rules.specs.Immediate.{after_comma, column_after_comma}
use Rattle.m11_asm_operands.specs.Elements.{elements_model, end_of_comma}
use Rattle.std.proofs.lemmas.List.{append_assoc, map-append}
use Rattle.m11_scan_statements.specs.declared.spans.Span.{Span}
use Rattle.m11_asm_rules.specs.Elements.{ListAt, elements_by, elements_within, item_before, names_by, names_within}
use Rattle.m11_scan_statements.specs.Listed.{listed_name}
use Rattle.m11_scan_statements.specs.declared.listed.ListedName.{ListedName}

module _ (line : List ℕ) (left next begin : ℕ) (is : left ≡ suc next) (e : Expr)
    (same : expression_of line e ≡ expression line begin) where
  -- the first element, by what follows it
  pub element_by : (found : Option ℕ) → column_after_comma line (expression_end line begin) ≡ found
      → elements_within left line begin
      ≡ elements_by (λ n. elements_within next line n) (expression_of line e) (expression_end line begin) found
  element_by found after =
      ap (λ (n : ℕ). elements_within n line begin) is
      ∙ ap (λ (f : Option ℕ). elements_by (λ n. elements_within next line n) (expression line begin) (expression_end line begin) f) after
      ∙ ap (λ (t : Expression). elements_by (λ n. elements_within next line n) t (expression_end line begin) found) (sym same)

pub with_one : (line : List ℕ) (before new : List Expr) (e : Expr) (more : List Expression) → new ≡ before ++ e ∷ []
    → elements_model line new ++ more ≡ elements_model line before ++ (expression_of line e ∷ more)
with_one line before new e more is =
    ap (λ (l : List Expr). elements_model line l ++ more) is
    ∙ ap (λ (l : List Expression). l ++ more) (map-append (expression_of line) before (e ∷ []))
    ∙ append_assoc (elements_model line before) (expression_of line e ∷ []) more

pub without_more : (line : List ℕ) (before new : List Expr) (e : Expr) → new ≡ before ++ e ∷ []
    → elements_model line new ≡ elements_model line before ++ (expression_of line e ∷ [])
without_more line before new e is =
    ap (λ (l : List Expr). elements_model line l) is ∙ map-append (expression_of line) before (e ∷ [])

-- the comma after an expression, by the next token
comma_next : (line : List ℕ) (end : ℕ) (next : Option Token) → MatchOption next (tokens_from line end ≡ [])
    (λ token. tokens_from line end ≡ lexeme line token ∷ tokens_from line token.end)
    → column_after_comma line end ≡ end_of_comma next
comma_next line end None e = ap after_comma e
comma_next line end (Some token) e = ap after_comma e

pub after_read : (line : List ℕ) (begin : ℕ) (next : Option Token) (end : ℕ) (found : Option ℕ) → end ≡ expression_end line begin
    → MatchOption next (tokens_from line end ≡ [])
    (λ token. tokens_from line end ≡ lexeme line token ∷ tokens_from line token.end)
    → end_of_comma next ≡ found
    → column_after_comma line (expression_end line begin) ≡ found
after_read line begin next end found here e is =
    ap (λ (n : ℕ). column_after_comma line n) (sym here) ∙ comma_next line end next e ∙ is

module _ (line : List ℕ) (left next begin : ℕ) (is : left ≡ suc next) where
  listed : (element : ListedName) → element ≡ listed_name begin (tokens_from line begin)
      → names_within left line begin ≡ names_by (λ n. names_within next line n) element
  listed element same =
      ap (λ (n : ℕ). names_within n line begin) is
      ∙ ap (λ (e : ListedName). names_by (λ n. names_within next line n) e) (sym same)

by_last : (more : ℕ → ListAt (Option Span)) (element : ListedName) → element.goes_on ≡ false → names_by more element ≡ record { list = element.name ∷ []; end = element.end }
by_last more element ends =
    ap (λ (goes : Bool). if goes then item_before element.name (more element.end) else record { list = element.name ∷ []; end = element.end }) ends

by_next : (more : ℕ → ListAt (Option Span)) (element : ListedName) → element.goes_on ≡ true
    → names_by more element ≡ item_before element.name (more element.end)
by_next more element goes_on =
    ap (λ (goes : Bool). if goes then item_before element.name (more element.end) else record { list = element.name ∷ []; end = element.end }) goes_on

goes : (goes_on : Bool) → not goes_on ≡ false → goes_on ≡ true
goes true is = refl
goes false is = sym is

module _ (line : List ℕ) (left next begin : ℕ) (is : left ≡ suc next) (element : ListedName)
    (same : element ≡ listed_name begin (tokens_from line begin)) where
  pub last_listed : element.goes_on ≡ false → names_within left line begin ≡ record { list = element.name ∷ []; end = element.end }
  last_listed ends = listed line left next begin is element same ∙ by_last (λ n. names_within next line n) element ends

  pub name_on : (column : ℕ) → column ≡ element.end → not element.goes_on ≡ false
      → names_within left line begin ≡ item_before element.name (names_within next line column)
  name_on column here more =
      listed line left next begin is element same ∙ by_next (λ n. names_within next line n) element (goes element.goes_on more)
      ∙ ap (λ (n : ℕ). item_before element.name (names_within next line n)) (sym here)

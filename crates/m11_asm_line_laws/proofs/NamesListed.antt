-- Names of a list are read one after another.
use Rattle.std.proofs.Common.{◌≡◌, ℕ, zero, suc, ◌+◌, ◌<◌, ◌≤◌, Bool, true, false, List, [], ◌∷◌, length, Option, Some, None, refl, sym, subst, arith, inl, inr}
use Rattle.std.specs.Prelude.{if◌then◌else◌}
use Rattle.std.proofs.lemmas.Bool.{cases_lt, false≢true}
use Rattle.std.proofs.lemmas.List.{drop_all}
use Rattle.m11_base.specs.Devices.{Bytes}
use Rattle.m11_asm_rules.specs.Elements.{ListAt, most_elements, item_before, names_at, names_by, names_within}
use Rattle.m11_scan.proofs.OrderedTokens.{tokens_from-ordered}
use Rattle.m11_scan.specs.Cutting.{Lexeme, tokens_from}
use Rattle.m11_scan.specs.Cuts.{AreOrdered}
use Rattle.m11_scan_statements.specs.Listed.{after_name, element, is_comma, is_name, listed_name, passed_over, span_of}
use Rattle.m11_scan_statements.specs.declared.listed.ListedName.{ListedName}
use Rattle.m11_scan_statements.specs.declared.spans.Span.{Span}
use Rattle.m11_asm_line_laws.specs.Lists.{AreNames}
use Rattle.m11_asm_line_laws.specs.Lists.AreNames.{LastName, NextName}

-- an element with a comma after it ends further on, within the line
pub record LiesBehind (size column : ℕ) (found : ListedName) : Type 0 where
  pub further : column < found.end
  pub within : found.end ≤ size

abbrev pub GoesOn : ℕ → ℕ → ListedName → Type 0
GoesOn size column found = found.goes_on ≡ true → LiesBehind size column found

pub ends_within : (size column : ℕ) (tokens : List Lexeme) → AreOrdered size column tokens → column ≤ size
ends_within size column [] o = o
ends_within size column (token ∷ tokens) o =
    let rest = ends_within size token.end tokens o.2 in
    let first = o.0 in
    let longer = o.1 in
    omega arith

comma_by : (size column : ℕ) (name : Option Span) (comma end : ℕ) (other : ListedName) (is_comma : Bool) → column < comma
    → comma ≤ size → GoesOn size column other
    → GoesOn size column (if is_comma then element name true comma else other)
comma_by size column name comma end other true lt le on = λ goes. record { further = lt; within = le }
comma_by size column name comma end other false lt le on = on

stops : (size column : ℕ) (name : Option Span) (end : ℕ) → GoesOn size column (element name false end)
stops size column name end = λ goes. absurd (false≢true goes)

earlier : (size low high : ℕ) (found : ListedName) → low ≤ high → GoesOn size high found → GoesOn size low found
earlier size low high found le on =
    λ goes. let behind = on goes in
    let further = behind.further in
    record { further = omega arith; within = behind.within }

passed : (size column : ℕ) (tokens : List Lexeme) → AreOrdered size column tokens → GoesOn size column (passed_over column tokens)
passed size column [] o = stops size column None column
passed size column (token ∷ tokens) o =
    let first = o.0 in
    let longer = o.1 in
    let ends = ends_within size token.end tokens o.2 in
    comma_by size column None token.end token.end (passed_over token.end tokens) (is_comma token.sort) (omega arith) ends
    (earlier size column token.end (passed_over token.end tokens) (omega arith) (passed size token.end tokens o.2))

after : (size column : ℕ) (name : Lexeme) (tokens : List Lexeme) → column ≤ name.end → AreOrdered size name.end tokens
    → GoesOn size column (after_name name tokens)
after size column name [] le o = stops size column (Some (span_of name)) name.end
after size column name (token ∷ tokens) le o =
    let first = o.0 in
    let longer = o.1 in
    let ends = ends_within size token.end tokens o.2 in
    comma_by size column (Some (span_of name)) token.end name.end (element (Some (span_of name)) false name.end)
    (is_comma token.sort) (omega arith) ends (stops size column (Some (span_of name)) name.end)

either : (size column : ℕ) (is_good : Bool) (good other : ListedName) → GoesOn size column good → GoesOn size column other
    → GoesOn size column (if is_good then good else other)
either size column true good other one two = one
either size column false good other one two = two

in_tokens : (size column : ℕ) (tokens : List Lexeme) → AreOrdered size column tokens → GoesOn size column (listed_name column tokens)
in_tokens size column [] o = stops size column None column
in_tokens size column (token ∷ tokens) o =
    let first = o.0 in
    let longer = o.1 in
    either size column (is_name token) (after_name token tokens) (passed_over column (token ∷ tokens))
    (after size column token tokens (omega arith) o.2) (passed size column (token ∷ tokens) o)

pub goes_on : (line : List ℕ) (column : ℕ) → GoesOn (length line) column (listed_name column (tokens_from line column))
goes_on line column = elim (cases_lt column (length line)) [
  | inl within ↦
      in_tokens (length line) column (tokens_from line column) (tokens_from-ordered line column (omega arith))
  | inr past ↦
      let none : tokens_from line column ≡ [] = rw (drop_all column line past) refl in
      subst (λ (tokens : List Lexeme). GoesOn (length line) column (listed_name column tokens)) (sym none)
      (stops (length line) column None column)
]

module _ (bound : ℕ) (line : List ℕ) (column : ℕ) (found : ListedName) (is : listed_name column (tokens_from line column) ≡ found)
    (rest : LiesBehind (length line) column found
    → AreNames line found.end (names_within bound line found.end).list (names_within bound line found.end).end)
    (on : GoesOn (length line) column found) where
  by_comma : (goes : Bool) → found.goes_on ≡ goes → (names : ListAt (Option Span))
      → names ≡ (if goes then item_before found.name (names_within bound line found.end) else record { list = found.name ∷ []; end = found.end })
      → AreNames line column names.list names.end
  by_comma true goes names same =
      subst (λ (n : ListAt (Option Span)). AreNames line column n.list n.end) (sym same)
      (NextName column found (names_within bound line found.end).list (names_within bound line found.end).end is goes (rest (on goes)))
  by_comma false goes names same =
      subst (λ (n : ListAt (Option Span)). AreNames line column n.list n.end) (sym same) (LastName column found is goes)

are_names : (bound : ℕ) (line : List ℕ) (column : ℕ) → 0 < bound → length line < column + bound
    → AreNames line column (names_within bound line column).list (names_within bound line column).end
are_names zero line column some enough = absurd (omega arith)
are_names (suc bound) line column some enough =
    let found = listed_name column (tokens_from line column) in
    by_comma bound line column found refl
    (λ behind.
    let further = behind.further in
    let within = behind.within in
    are_names bound line found.end (omega arith) (omega arith))
    (goes_on line column) found.goes_on refl (names_by (λ next. names_within bound line next) found) refl

pub written_names : (line : Bytes) (column : ℕ) → AreNames line column (names_at line column).list (names_at line column).end
written_names line column = are_names (most_elements line) line column (omega arith) (omega arith)

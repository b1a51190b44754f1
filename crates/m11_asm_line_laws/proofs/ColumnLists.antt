-- Lists, parts of texts and actuals at a column of a line depend on the text from that column on alone.
use Rattle.std.proofs.Common.{◌≡◌, ℕ, zero, suc, ◌+◌, ◌<◌, ◌≤◌, Bool, true, false, List, [], ◌∷◌, length, map, Option, Some, None, option_map, is_none, refl, ap, ◌∙◌, arith}
use Rattle.std.specs.Prelude.{if◌then◌else◌}
use Rattle.std.specs.Int.RustNames.{bit_or}
use Rattle.std.specs.List.{list_any}
use Rattle.m11_base.specs.Devices.{Bytes}
use Rattle.m11_base.specs.NameCharacters.{six_of}
use Rattle.m11_scan.specs.Cutting.{Lexeme, text_between, tokens_from}
use Rattle.m11_scan.specs.Cuts.{AreOrdered}
use Rattle.m11_scan.specs.Ends.{expression_end, sort_in}
use Rattle.m11_scan.specs.ErrorFlags.{flag_A, flag_if}
use Rattle.m11_scan.specs.Expressions.{begin, taken}
use Rattle.m11_scan.proofs.OrderedTokens.{tokens_from-ordered}
use Rattle.m11_scan_expressions.specs.LeftOvers.{left_over, skip_flags}
use Rattle.m11_scan_expressions.specs.Tokens.{Expression, expression}
use Rattle.m11_scan_statements.specs.Listed.{after_name, element, is_comma, is_name, listed_name, passed_over, span_of}
use Rattle.m11_scan_statements.specs.declared.listed.ListedName.{ListedName}
use Rattle.m11_scan_statements.specs.declared.spans.Span.{Span}
use Rattle.m11_unfold_rules.specs.Immediate.{after_comma, column_after_comma}
use Rattle.m11_asm_rules.specs.Elements.{ListAt, argument_flags, bad_flags, elements_at, elements_by, elements_within, item_before, names_at, names_by, names_flags, names_within, texts_of}
use Rattle.m11_asm_rules.proofs.TextParts.{after_within}
use Rattle.m11_asm_line_laws.proofs.Columns.{expression_end_up, expression_up, left_over_up, skip_flags_up, text_up, tokens_up, up}
use Rattle.m11_asm_line_laws.proofs.NamesListed.{GoesOn, LiesBehind, ends_within, goes_on}

-- a function of either value is one of the chosen value
pub by_if : {A B : Type 0} (f : A → B) (b : Bool) (x y : A) → (if b then f x else f y) ≡ f (if b then x else y)
by_if f true x y = refl
by_if f false x y = refl

abbrev pub up_column : ℕ → ℕ
up_column n = suc n

abbrev pub up_span : Span → Span
up_span span = record { start = suc span.start; end = suc span.end }

-- ---- what depends on no line

comma_if : (b : Bool) (n : ℕ) → (if b then Some (suc n) else None) ≡ option_map up_column (if b then Some n else None)
comma_if true n = refl
comma_if false n = refl

after_comma_up : (tokens : List Lexeme) → after_comma (map up tokens) ≡ option_map up_column (after_comma tokens)
after_comma_up [] = refl
after_comma_up (token ∷ tokens) = comma_if (is_comma token.sort) token.end

abbrev listed_up : ListedName → ListedName
listed_up found = record { name = option_map up_span found.name; goes_on = found.goes_on; end = suc found.end }

passed_over_up : (column : ℕ) (tokens : List Lexeme) → passed_over (suc column) (map up tokens) ≡ listed_up (passed_over column tokens)
passed_over_up column [] = refl
passed_over_up column (token ∷ tokens) =
    ap (λ e. if is_comma token.sort then element None true (suc token.end) else e) (passed_over_up token.end tokens)
    ∙ by_if listed_up (is_comma token.sort) (element None true token.end) (passed_over token.end tokens)

after_name_up : (name : Lexeme) (tokens : List Lexeme) → after_name (up name) (map up tokens) ≡ listed_up (after_name name tokens)
after_name_up name [] = refl
after_name_up name (token ∷ tokens) =
    by_if listed_up (is_comma token.sort) (element (Some (span_of name)) true token.end) (element (Some (span_of name)) false name.end)

listed_name_up : (column : ℕ) (tokens : List Lexeme) → listed_name (suc column) (map up tokens) ≡ listed_up (listed_name column tokens)
listed_name_up column [] = refl
listed_name_up column (token ∷ tokens) =
    ap (λ e. if is_name token then e else passed_over (suc column) (up token ∷ map up tokens)) (after_name_up token tokens)
    ∙ ap (λ e. if is_name token then listed_up (after_name token tokens) else e) (passed_over_up column (token ∷ tokens))
    ∙ by_if listed_up (is_name token) (after_name token tokens) (passed_over column (token ∷ tokens))

none_up : (names : List (Option Span)) → list_any is_none (map (option_map up_span) names) ≡ list_any is_none names
none_up [] = refl
none_up (None ∷ names) = refl
none_up (Some name ∷ names) = none_up names

-- ---- lists with their ends

abbrev elements_up : ListAt Expression → ListAt Expression
elements_up found = record { list = found.list; end = suc found.end }

abbrev pub names_up : ListAt (Option Span) → ListAt (Option Span)
names_up found = record { list = map (option_map up_span) found.list; end = suc found.end }

module _ (longer_more more : ℕ → ListAt Expression) (same : (next : ℕ) → longer_more (suc next) ≡ elements_up (more next)) where
  elements_by_up : (one : Expression) (end : ℕ) (found : Option ℕ)
      → elements_by longer_more one (suc end) (option_map up_column found) ≡ elements_up (elements_by more one end found)
  elements_by_up one end None = refl
  elements_by_up one end (Some next) = ap (item_before one) (same next)

module _ (longer_more more : ℕ → ListAt (Option Span)) (same : (next : ℕ) → longer_more (suc next) ≡ names_up (more next)) where
  names_by_up : (found : ListedName) → names_by longer_more (listed_up found) ≡ names_up (names_by more found)
  names_by_up found =
      ap (λ r. if found.goes_on then item_before (option_map up_span found.name) r
      else record { list = option_map up_span found.name ∷ []; end = suc found.end }) (same found.end)
      ∙ by_if names_up found.goes_on (item_before found.name (more found.end)) (record { list = found.name ∷ []; end = found.end })

-- ---- a bound on the items that is greater than needed

-- a comma after a column ends further on, within the line
abbrev CommaWithin : ℕ → ℕ → Option ℕ → Type 0
CommaWithin size end None = Unit {0}
CommaWithin size end (Some next) = (end < next) × (next ≤ size)

comma_by : (size end next : ℕ) (b : Bool) → end < next → next ≤ size → CommaWithin size end (if b then Some next else None)
comma_by size end next true lt le = (lt, le)
comma_by size end next false lt le = tt

comma_in : (size end : ℕ) (tokens : List Lexeme) → AreOrdered size end tokens → CommaWithin size end (after_comma tokens)
comma_in size end [] o = tt
comma_in size end (token ∷ tokens) o =
    let first = o.0 in
    let longer = o.1 in
    comma_by size end token.end (is_comma token.sort) (omega arith) (ends_within size token.end tokens o.2)

elements_by_more : (size : ℕ) (one other : ℕ → ListAt Expression) (item : Expression) (end : ℕ) (found : Option ℕ)
    → CommaWithin size end found → ((next : ℕ) → end < next → next ≤ size → one next ≡ other next)
    → elements_by one item end found ≡ elements_by other item end found
elements_by_more size one other item end None within same = refl
elements_by_more size one other item end (Some next) within same = ap (item_before item) (same next within.0 within.1)

elements_more : (bound : ℕ) (line : Bytes) (column : ℕ) → column ≤ length line → length line < column + bound
    → elements_within (suc bound) line column ≡ elements_within bound line column
elements_more zero line column le enough = absurd (omega arith)
elements_more (suc bound) line column le enough =
    let end : ℕ = expression_end line column in
    let tokens : List Lexeme = tokens_from line column in
    let inside = after_within (length line) column (taken (map sort_in tokens) begin) tokens (tokens_from-ordered line column le) in
    let low : column ≤ end = inside.0 in
    elements_by_more (length line) (λ next. elements_within (suc bound) line next) (λ next. elements_within bound line next)
    (expression line column) end (column_after_comma line end)
    (comma_in (length line) end (tokens_from line end) (tokens_from-ordered line end inside.1))
    (λ next lt within. elements_more bound line next within (omega (arith, low, lt, enough)))

names_by_more : (size column : ℕ) (one other : ℕ → ListAt (Option Span)) (found : ListedName) → GoesOn size column found
    → (LiesBehind size column found → one found.end ≡ other found.end) → (b : Bool) → found.goes_on ≡ b
    → (if b then item_before found.name (one found.end) else record { list = found.name ∷ []; end = found.end })
    ≡ (if b then item_before found.name (other found.end) else record { list = found.name ∷ []; end = found.end })
names_by_more size column one other found on same true goes = ap (item_before found.name) (same (on goes))
names_by_more size column one other found on same false goes = refl

names_more : (bound : ℕ) (line : Bytes) (column : ℕ) → 0 < bound → length line < column + bound
    → names_within (suc bound) line column ≡ names_within bound line column
names_more zero line column some enough = absurd (omega arith)
names_more (suc bound) line column some enough =
    let found : ListedName = listed_name column (tokens_from line column) in
    names_by_more (length line) column (λ next. names_within (suc bound) line next) (λ next. names_within bound line next) found
    (goes_on line column)
    (λ behind.
    let further = behind.further in
    let within = behind.within in
    names_more bound line found.end (omega arith) (omega arith))
    found.goes_on refl

-- ---- a line with one more character in front, and columns one further on
module _ (byte : ℕ) (line : Bytes) where
  abbrev longer : Bytes
  longer = byte ∷ line

  pub argument_flags_up : (start end : ℕ) → argument_flags longer (suc start) (suc end) ≡ argument_flags line start end
  argument_flags_up start end =
      ap (λ f. bit_or f (left_over longer (suc end))) (skip_flags_up byte line start end)
      ∙ ap (bit_or (skip_flags line start end)) (left_over_up byte line end)

  pub column_after_comma_up : (column : ℕ) → column_after_comma longer (suc column) ≡ option_map up_column (column_after_comma line column)
  column_after_comma_up column = ap after_comma (tokens_up byte line column) ∙ after_comma_up (tokens_from line column)

  elements_within_up : (bound column : ℕ) → elements_within bound longer (suc column) ≡ elements_up (elements_within bound line column)
  elements_within_up zero column = refl
  elements_within_up (suc bound) column =
      let end : ℕ = expression_end line column in
      ap (λ e. elements_by (λ next. elements_within bound longer next) e (expression_end longer (suc column))
      (column_after_comma longer (expression_end longer (suc column)))) (expression_up byte line column)
      ∙ ap (λ n. elements_by (λ next. elements_within bound longer next) (expression line column) n (column_after_comma longer n))
      (expression_end_up byte line column)
      ∙ ap (elements_by (λ next. elements_within bound longer next) (expression line column) (suc end)) (column_after_comma_up end)
      ∙ elements_by_up (λ next. elements_within bound longer next) (λ next. elements_within bound line next)
      (elements_within_up bound) (expression line column) end (column_after_comma line end)

  pub elements_at_up : (column : ℕ) → column ≤ length line → elements_at longer (suc column) ≡ elements_up (elements_at line column)
  elements_at_up column le =
      elements_within_up (suc (suc (length line))) column
      ∙ ap elements_up (elements_more (suc (length line)) line column le (omega arith))

  names_within_up : (bound column : ℕ) → names_within bound longer (suc column) ≡ names_up (names_within bound line column)
  names_within_up zero column = refl
  names_within_up (suc bound) column =
      ap (λ ts. names_by (λ next. names_within bound longer next) (listed_name (suc column) ts)) (tokens_up byte line column)
      ∙ ap (names_by (λ next. names_within bound longer next)) (listed_name_up column (tokens_from line column))
      ∙ names_by_up (λ next. names_within bound longer next) (λ next. names_within bound line next) (names_within_up bound)
      (listed_name column (tokens_from line column))

  pub names_at_up : (column : ℕ) → names_at longer (suc column) ≡ names_up (names_at line column)
  names_at_up column =
      names_within_up (suc (suc (length line))) column
      ∙ ap names_up (names_more (suc (length line)) line column (omega arith) (omega arith))

  pub texts_of_up : (names : List (Option Span)) → texts_of longer (map (option_map up_span) names) ≡ texts_of line names
  texts_of_up [] = refl
  texts_of_up (None ∷ names) = texts_of_up names
  texts_of_up (Some name ∷ names) =
      ap (λ t. six_of t ∷ texts_of longer (map (option_map up_span) names)) (text_up byte line name.start name.end)
      ∙ ap (λ ts. six_of (text_between line name.start name.end) ∷ ts) (texts_of_up names)

  pub names_flags_up : (start : ℕ) (names : ListAt (Option Span)) → names_flags longer (suc start) (names_up names) ≡ names_flags line start names
  names_flags_up start names =
      ap (λ b. bit_or (flag_if b flag_A) (argument_flags longer (suc start) (suc names.end))) (none_up names.list)
      ∙ ap (bit_or (bad_flags names.list)) (argument_flags_up start names.end)

-- Formals and actuals are read one after another.
use Rattle.std.proofs.Common.{◌≡◌, ℕ, zero, suc, ◌+◌, ◌<◌, ◌≤◌, Bool, true, false, List, [], ◌∷◌, ◌++◌, length, map, take, drop, Option, Some, None, refl, sym, ap, ◌∙◌, subst, arith, inl, inr}
use Rattle.std.specs.Prelude.{◌⊎◌, ◌-◌, ◌==◌, ◌&&◌, ◌||◌, if◌then◌else◌, nat_le, not}
use Rattle.std.specs.List.{prefix_len}
use Rattle.std.proofs.lemmas.Bool.{cases_lt, eqb-true}
use Rattle.std.proofs.lemmas.List.{drop-drop, drop_all, length-drop}
use Rattle.m11_scan.specs.Classes.{is_bare, is_blank}
use Rattle.m11_unfold_rules.specs.Actuals.{ActualTexts, actuals_from, followed_by, given_by}
use Rattle.m11_unfold_rules.specs.Conditions.{text_of}
use Rattle.m11_unfold_rules.specs.Digits.{digits_of}
use Rattle.m11_scan_expressions.specs.Expressions.{KnownSymbols, number_at}
use Rattle.m11_unfold_rules.specs.Headers.{NextListed, formals_after, formals_by, formals_within, listed_at}
use Rattle.m11_unfold_rules.specs.Headers.NextListed.{Ending, Formally}
use Rattle.m11_unfold_rules.proofs.Cases.{formal_name, given_as, listed_by, listed_named, unwanted, wanted_by}
use Rattle.m11_base.specs.Devices.{Bytes}
use Rattle.m11_base.specs.Rad50.{Name}
use Rattle.m11_scan.specs.Line.{line_limit}
use Rattle.m11_scan.proofs.OrderedTokens.{tokens_from-ordered}
use Rattle.m11_scan.specs.Cutting.{Lexeme, text_between, tokens_from}
use Rattle.m11_scan.specs.Cuts.{AreOrdered}
use Rattle.m11_scan.specs.Ends.{column_after, expression_end, sort_in}
use Rattle.m11_scan.specs.Expressions.{begin, taken}
use Rattle.m11_scan.specs.ErrorFlags.{flag_I, flag_if}
use Rattle.m11_scan.specs.Numbers.{base_of}
use Rattle.m11_scan.specs.Skipped.{has_skipped}
use Rattle.m11_scan.specs.Texts.{bracketed, separator_length}
use Rattle.m11_scan_statements.specs.Actuals.{bracketed_actual, next_actual, separator_at, whole_actual}
use Rattle.m11_scan_statements.specs.Formals.{follows_question, next_formal}
use Rattle.m11_scan_statements.specs.Listed.{is_name, span_of}
use Rattle.m11_scan_statements.specs.declared.actuals.Actual.{Actual}
use Rattle.m11_scan_statements.specs.declared.actuals.ActualKind.{ActualKind}
use Rattle.m11_scan_statements.specs.declared.actuals.ActualKind.TheVariants.{Bare, Bracketed, Digits}
use Rattle.m11_scan_statements.specs.declared.formals.Formal.{Formal}
use Rattle.m11_scan_statements.specs.declared.formals.NextFormal.{NextFormal}
use Rattle.m11_scan_statements.specs.declared.formals.NextFormal.TheVariants.{Bad, Ends, Named}
use Rattle.m11_asm_line_laws.specs.Lists.{AreActuals, AreFormals, IsOver}
use Rattle.m11_asm_line_laws.specs.Lists.AreActuals.{NoActual, OneActual}
use Rattle.m11_asm_line_laws.specs.Lists.AreFormals.{NoFormal, OneFormal}
use Rattle.m11_asm_line_laws.specs.Printed.{AreBlanks}

-- ---- past the end of a line

past_tokens : (line : List ℕ) (column : ℕ) → length line ≤ column → tokens_from line column ≡ []
past_tokens line column past = rw (drop_all column line past) refl

-- the first token at or after a column ends after that column
first_ends : (line : List ℕ) (column : ℕ) (token : Lexeme) (tokens : List Lexeme) → tokens_from line column ≡ token ∷ tokens
    → column < token.end
first_ends line column token tokens is = elim (cases_lt column (length line)) [
  | inl within ↦
      let ordered = subst (AreOrdered (length line) column) is (tokens_from-ordered line column (omega arith)) in
      let first = ordered.0 in
      let longer = ordered.1 in
      omega arith
  | inr past ↦ let none = past_tokens line column past in absurd (cc)
]

-- ---- formals

abbrev EndsPast : ℕ → NextFormal → Type 0
EndsPast column Ends = Unit {0}
EndsPast column Bad = Unit {0}
EndsPast column (Named formal) = column < formal.name.end

-- the formal that these tokens begin with
abbrev formal_in : List ℕ → List Lexeme → NextFormal
formal_in line tokens = elim tokens [
  | [] ↦ Ends
  | token ∷ more ↦
      if is_name token then Named (record { name = span_of token; is_created = follows_question line token.start })
      else Bad
]

formal_ends : (line : List ℕ) (column : ℕ) (token : Lexeme) (is_good : Bool) → column < token.end
    → EndsPast column
    (if is_good then Named (record { name = span_of token; is_created = follows_question line token.start }) else Bad)
formal_ends line column token true lt = lt
formal_ends line column token false lt = tt

in_ends : (line : List ℕ) (column : ℕ) (tokens : List Lexeme) → tokens_from line column ≡ tokens → EndsPast column (formal_in line tokens)
in_ends line column [] is = tt
in_ends line column (token ∷ tokens) is = formal_ends line column token (is_name token) (first_ends line column token tokens is)

abbrev ListedPast : ℕ → NextListed → Type 0
ListedPast column (Ending flags) = Unit {0}
ListedPast column (Formally formal flags end) = column < end

named_past : (line : List ℕ) (column : ℕ) (formal : Formal) (name : Option Name) → column < formal.name.end
    → ListedPast column (listed_named line column formal name)
named_past line column formal None lt = tt
named_past line column formal (Some name) lt = lt

by_past : (line : List ℕ) (column : ℕ) (next : NextFormal) → EndsPast column next → ListedPast column (listed_by line column next)
by_past line column Ends past = tt
by_past line column Bad past = tt
by_past line column (Named formal) past = named_past line column formal (formal_name line formal) past

listed_past : (line : List ℕ) (column : ℕ) → ListedPast column (listed_at line column)
listed_past line column = by_past line column (next_formal line column) (in_ends line column (tokens_from line column) refl)

abbrev nothing : List ℕ
nothing = []

take-nil : (count : ℕ) → take count nothing ≡ nothing
take-nil zero = refl
take-nil (suc count) = refl

between_past : (line : List ℕ) (column : ℕ) → length line ≤ column → text_between line column (length line) ≡ []
between_past line column past = by_order (nat_le column (length line)) where
  by_order : (is_in : Bool) → (if is_in && nat_le (length line) (length line) then take (length line - column) (drop column line) else []) ≡ []
  by_order false = refl
  by_order true = rw (drop_all column line past) (by_size (nat_le (length line) (length line))) where
    by_size : (is_in : Bool) → (if is_in then take (length line - column) nothing else nothing) ≡ nothing
    by_size false = refl
    by_size true = take-nil (length line - column)

past_listed : (line : List ℕ) (column : ℕ) → length line ≤ column → listed_at line column ≡ Ending 0
past_listed line column past =
    ap (λ (tokens : List Lexeme). listed_by line column (formal_in line tokens)) (past_tokens line column past)
    ∙ ap (λ (text : List ℕ). Ending (flag_if (has_skipped text) flag_I)) (between_past line column past)

module _ (line : List ℕ) (bound column : ℕ)
    (rest : (next : ℕ) → column < next → AreFormals line next (formals_within bound line next).list (formals_within bound line next).flags) where
  by_listed : (found : NextListed) → listed_at line (separator_at line column).end ≡ found
      → ListedPast (separator_at line column).end found
      → AreFormals line column (formals_by (λ next. formals_within bound line next) found).list
      (formals_by (λ next. formals_within bound line next) found).flags
  by_listed (Ending flags) is past = NoFormal column flags is
  by_listed (Formally formal flags end) is past =
      OneFormal column formal flags end (formals_within bound line end).list (formals_within bound line end).flags is
      (rest end (omega arith))

are_formals : (line : List ℕ) (bound column : ℕ) → length line ≤ column + bound
    → AreFormals line column (formals_within bound line column).list (formals_within bound line column).flags
are_formals line zero column past = NoFormal column 0 (past_listed line (separator_at line column).end (omega arith))
are_formals line (suc bound) column past =
    by_listed line bound column (λ next lt. are_formals line bound next (omega arith))
    (listed_at line (separator_at line column).end) refl (listed_past line (separator_at line column).end)

pub written_formals : (line : Bytes) (column : ℕ) → length line ≤ line_limit
    → AreFormals line column (formals_after line column).list (formals_after line column).flags
written_formals line column short = are_formals line line_limit column (omega arith)

-- ---- actuals

-- a separator ends after the actual before it
separator_after : (line : List ℕ) (column : ℕ) → column ≤ (separator_at line column).end
separator_after line column = omega arith

-- the lemmas up to `takes_by` show that a bare actual and its separator together have at least one character
prefix-true : (p : ℕ → Bool) (byte : ℕ) (text : List ℕ) → p byte ≡ true → prefix_len p (byte ∷ text) ≡ 1 + prefix_len p text
prefix-true p byte text is = ap (λ (b : Bool). if b then 1 + prefix_len p text else 0) is

prefix-false : (p : ℕ → Bool) (byte : ℕ) (text : List ℕ) → p byte ≡ false → prefix_len p (byte ∷ text) ≡ 0
prefix-false p byte text is = ap (λ (b : Bool). if b then 1 + prefix_len p text else 0) is

abbrev TakesSome : List ℕ → ℕ → Type 0
TakesSome text count = 0 < count + separator_length (drop count text)

takes_blank : (byte : ℕ) (text : List ℕ) → is_blank byte ≡ true → TakesSome (byte ∷ text) (prefix_len is_bare (byte ∷ text))
takes_blank byte text blank =
    let none = prefix-false is_bare byte text (ap (λ (b : Bool). not (b || (byte == 0o54 || byte == 0o73))) blank) in
    let some = prefix-true is_blank byte text blank in
    subst (TakesSome (byte ∷ text)) (sym none) (omega arith)

takes_comma : (byte : ℕ) (text : List ℕ) → byte ≡ 0o54 → TakesSome (byte ∷ text) (prefix_len is_bare (byte ∷ text))
takes_comma byte text comma =
    subst (λ (b : ℕ). TakesSome (b ∷ text) (prefix_len is_bare (b ∷ text))) (sym comma) (omega arith)

takes_bare : (byte : ℕ) (text : List ℕ) → is_bare byte ≡ true → TakesSome (byte ∷ text) (prefix_len is_bare (byte ∷ text))
takes_bare byte text bare = let some = prefix-true is_bare byte text bare in omega arith

takes_by : (byte : ℕ) (text : List ℕ) → (byte == 0o73) ≡ false → (blank comma : Bool) → is_blank byte ≡ blank → (byte == 0o54) ≡ comma
    → TakesSome (byte ∷ text) (prefix_len is_bare (byte ∷ text))
takes_by byte text other true comma is_so so = takes_blank byte text is_so
takes_by byte text other false true is_so so = takes_comma byte text (eqb-true byte 0o54 so)
takes_by byte text other false false is_so so =
    takes_bare byte text (ap (λ (b : Bool). not (b || (byte == 0o54 || byte == 0o73))) is_so
    ∙ ap (λ (b : Bool). not (b || byte == 0o73)) so ∙ ap not other)

-- the column after an actual and its separator is beyond this column; true without an actual
abbrev GoesOn : List ℕ → ℕ → Option Actual → Type 0
GoesOn line column None = Unit {0}
GoesOn line column (Some actual) = column < (separator_at line actual.end).end

either_goes : (line : List ℕ) (column : ℕ) (is_comment is_bracket is_digits : Bool) (bracketed digits bare : Actual)
    → column < (separator_at line bracketed.end).end → column < (separator_at line digits.end).end
    → (is_comment ≡ false → column < (separator_at line bare.end).end)
    → GoesOn line column (if is_comment then None else (if is_bracket then Some bracketed
    else (if is_digits then Some digits else Some bare)))
either_goes line column true is_bracket is_digits bracketed digits bare one two three = tt
either_goes line column false true is_digits bracketed digits bare one two three = one
either_goes line column false false true bracketed digits bare one two three = two
either_goes line column false false false bracketed digits bare one two three = three refl

bracket_ends : (start size : ℕ) (is_closed : Bool) → start ≤ (if is_closed then start + size + 1 else start + size)
bracket_ends start size true = omega arith
bracket_ends start size false = omega arith

after_tokens : (size column count : ℕ) (tokens : List Lexeme) → AreOrdered size column tokens
    → column ≤ column_after column (take count tokens)
after_tokens size column zero tokens o = omega arith
after_tokens size column (suc count) [] o = omega arith
after_tokens size column (suc count) (token ∷ tokens) o =
    let rest = after_tokens size token.end count tokens o.2 in
    let first = o.0 in
    let longer = o.1 in
    omega arith

abbrev digits_actual : List ℕ → ℕ → Actual
digits_actual line start = whole_actual Digits start (expression_end line start)

abbrev bare_actual : List ℕ → ℕ → Actual
bare_actual line start = whole_actual Bare start (start + prefix_len is_bare (drop start line))

-- the actual that begins at a column, from the characters that the line has there and after it
abbrev actual_in : List ℕ → ℕ → Bool → List ℕ → Option Actual
actual_in line start allows_digits text = elim text [
  | [] ↦ None
  | byte ∷ more ↦
      if byte == 0o73 then None
      else (if byte == 0o74 then Some (bracketed_actual line (start + 1))
      else (if byte == 0o134 && allows_digits then Some (digits_actual line (start + 1)) else Some (bare_actual line start)))
]

abbrev after_blanks : List ℕ → ℕ → ℕ
after_blanks line column = column + prefix_len is_blank (drop column line)

actual_goes : (line : List ℕ) (column start : ℕ) (text : List ℕ) → drop start line ≡ text → column ≤ start
    → GoesOn line column (actual_in line start true text)
actual_goes line column start [] is le = tt
actual_goes line column start (byte ∷ text) is le =
    let size = length-drop start line in
    let some : length (drop start line) ≡ suc (length text) = ap length is in
    let tokens = tokens_from line (start + 1) in
    let count = taken (map sort_in tokens) begin in
    either_goes line column (byte == 0o73) (byte == 0o74) (byte == 0o134 && true)
    (bracketed_actual line (start + 1)) (digits_actual line (start + 1)) (bare_actual line start)
    (let enclosed = bracketed (drop (start + 1) line) in
    let ends = bracket_ends (start + 1) enclosed.length enclosed.is_closed in
    let after = separator_after line (bracketed_actual line (start + 1)).end in
    omega arith)
    (let ends = after_tokens (length line) (start + 1) count tokens (tokens_from-ordered line (start + 1) (omega arith)) in
    let after = separator_after line (digits_actual line (start + 1)).end in
    omega arith)
    (λ other.
    let takes = takes_by byte text other (is_blank byte) (byte == 0o54) refl refl in
    let there : TakesSome (drop start line) (prefix_len is_bare (drop start line)) =
    subst (λ (t : List ℕ). TakesSome t (prefix_len is_bare t)) (sym is) takes in
    let same = drop-drop (prefix_len is_bare (drop start line)) start line in
    let further : 0 < prefix_len is_bare (drop start line) + separator_length (drop (start + prefix_len is_bare (drop start line)) line) =
    subst (λ (t : List ℕ). 0 < prefix_len is_bare (drop start line) + separator_length t) same there in
    omega arith)

next_goes : (line : List ℕ) (column : ℕ) → GoesOn line column (next_actual line column true)
next_goes line column =
    actual_goes line column (after_blanks line column) (drop (after_blanks line column) line) refl (omega arith)

past_actual : (line : List ℕ) (column : ℕ) → length line ≤ column → next_actual line column true ≡ None
past_actual line column past =
    ap (λ (t : List ℕ). actual_in line (after_blanks line column) true t) (drop_all (after_blanks line column) line (omega arith))

module _ (known : KnownSymbols) (line : List ℕ) (wanted column : ℕ)
    (rest : (next : ℕ) → column < next → AreActuals known line next (actuals_from known line wanted next)) where
  by_actual : (found : Option Actual) → next_actual line column true ≡ found → GoesOn line column found
      → AreActuals known line column (wanted_by known line (λ next. actuals_from known line wanted next) found)
  by_actual None is on = NoActual column is
  by_actual (Some actual) is on =
      OneActual column actual (actuals_from known line wanted (separator_at line actual.end).end) is
      (rest (separator_at line actual.end).end on)

pub all_actuals : (known : KnownSymbols) (line : Bytes) (wanted column : ℕ) → length line ≤ column + wanted
    → AreActuals known line column (actuals_from known line wanted column)
all_actuals known line zero column past =
    let none = past_actual line column (omega arith) in
    subst (λ (a : Option Actual). AreActuals known line column (unwanted a)) (sym none) (NoActual column none)
all_actuals known line (suc wanted) column past =
    by_actual known line wanted column (λ next lt. all_actuals known line wanted next (omega arith))
    (next_actual line column true) refl (next_goes line column)

-- ---- the end of a list of actuals

-- the blanks and tabs that a text begins with
abbrev Led : List ℕ → Type 0
Led text = (blanks : List ℕ) × (text ≡ blanks ++ drop (prefix_len is_blank text) text) × AreBlanks blanks

led_by : (byte : ℕ) (text : List ℕ) (blank : Bool) → is_blank byte ≡ blank → Led text → Led (byte ∷ text)
led_by byte text true is led =
    let count : prefix_len is_blank (byte ∷ text) ≡ suc (prefix_len is_blank text) = omega (arith, prefix-true is_blank byte text is) in (
      byte ∷ led.0,
      ap (λ (t : List ℕ). byte ∷ t) led.1 ∙ sym (ap (λ (n : ℕ). (byte ∷ led.0) ++ drop n (byte ∷ text)) count),
      (is, led.2),
    )
led_by byte text false is led = ([], sym (ap (λ (n : ℕ). drop n (byte ∷ text)) (prefix-false is_blank byte text is)), tt)

led : (text : List ℕ) → Led text
led [] = ([], refl, tt)
led (byte ∷ text) = led_by byte text (is_blank byte) refl (led text)

-- without an actual in it, this text is empty or a comment
comment_or : (byte : ℕ) (text : List ℕ) (is_comment is_bracket is_digits : Bool) (enclosed digits bare : Actual) → (byte == 0o73) ≡ is_comment
    → (if is_comment then None else (if is_bracket then Some enclosed else (if is_digits then Some digits else Some bare))) ≡ None
    → (comment : List ℕ) × (byte ∷ text ≡ 0o73 ∷ comment)
comment_or byte text true is_bracket is_digits enclosed digits bare is none =
    (text, ap (λ (b : ℕ). b ∷ text) (eqb-true byte 0o73 is))
comment_or byte text false true is_digits enclosed digits bare is none = absurd cc
comment_or byte text false false true enclosed digits bare is none = absurd cc
comment_or byte text false false false enclosed digits bare is none = absurd cc

over_at : (line : List ℕ) (start : ℕ) (allows_digits : Bool) (text : List ℕ) → actual_in line start allows_digits text ≡ None
    → (text ≡ []) ⊎ ((comment : List ℕ) × (text ≡ 0o73 ∷ comment))
over_at line start allows_digits [] none = inl refl
over_at line start allows_digits (byte ∷ text) none =
    inr (comment_or byte text (byte == 0o73) (byte == 0o74) (byte == 0o134 && allows_digits)
    (bracketed_actual line (start + 1)) (digits_actual line (start + 1)) (bare_actual line start) refl none)

pub actuals_over : (line : Bytes) (column : ℕ) (allows_digits : Bool) → next_actual line column allows_digits ≡ None
    → IsOver (drop column line)
actuals_over line column allows_digits none =
    let front = led (drop column line) in
    let count = prefix_len is_blank (drop column line) in (
      front.0,
      drop (after_blanks line column) line,
      front.1 ∙ ap (λ (t : List ℕ). front.0 ++ t) (drop-drop count column line),
      front.2,
      over_at line (after_blanks line column) allows_digits (drop (after_blanks line column) line) none,
    )

-- ---- the first actuals

-- an actual has one text
pub record HasOne (given : ActualTexts) : Type 0 where
  pub text : List ℕ
  pub is : given.texts ≡ text ∷ []

one_as : (known : KnownSymbols) (line : List ℕ) (actual : Actual) (kind : ActualKind) → HasOne (given_as known line actual kind)
one_as known line actual Bare = record { text = text_of line actual; is = refl }
one_as known line actual Bracketed = record { text = text_of line actual; is = refl }
one_as known line actual Digits =
    record { text = digits_of (base_of known.radix) (number_at known line actual.inside.start); is = refl }

module _ (known : KnownSymbols) (line : List ℕ) where
  -- if the wanted actuals after the first one are the first of those after it, the same holds with the first one
  one_wanted : (actual : Actual) (wanted : ℕ) (found all : ActualTexts) (one : HasOne (given_by known line actual))
      → found.texts ≡ take wanted all.texts
      → (followed_by (given_by known line actual) found).texts
      ≡ take (suc wanted) (followed_by (given_by known line actual) all).texts
  one_wanted actual wanted found all one same =
      ap (λ (ts : List (List ℕ)). ts ++ found.texts) one.is
      ∙ ap (λ (ts : List (List ℕ)). one.text ∷ ts) same
      ∙ sym (ap (λ (ts : List (List ℕ)). take (suc wanted) (ts ++ all.texts)) one.is)

  pub first_actuals : (wanted column : ℕ) (all : ActualTexts) → AreActuals known line column all
      → (actuals_from known line wanted column).texts ≡ take wanted all.texts
  first_actuals zero column all are = refl
  first_actuals (suc wanted) column _ (NoActual _ none) =
      ap (λ (a : Option Actual). (wanted_by known line (λ next. actuals_from known line wanted next) a).texts) none
  first_actuals (suc wanted) column _ (OneActual _ actual more some are) =
      ap (λ (a : Option Actual). (wanted_by known line (λ next. actuals_from known line wanted next) a).texts) some
      ∙ one_wanted actual wanted (actuals_from known line wanted (separator_at line actual.end).end) more
      (one_as known line actual actual.kind)
      (first_actuals wanted (separator_at line actual.end).end more are)

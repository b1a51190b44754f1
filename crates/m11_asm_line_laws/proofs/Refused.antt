-- A refused condition doesn't hold, and is flagged A.
use Rattle.std.proofs.Common.{◌≡◌, ℕ, Bool, true, false, List, [], ◌∷◌, Option, Some, None, refl, sym, ap, ◌∙◌, subst, length}
use Rattle.std.specs.Prelude.{if◌then◌else◌}
use Rattle.std.specs.Int.RustNames.{bit_or}
use Rattle.std.proofs.lemmas.Bool.{false≢true}
use Rattle.m11_unfold_rules.specs.Conditions.{ConditionResult, actual_flags, asked, condition, defined, is_negative, matched, numeric, refused, same, text_of}
use Rattle.m11_unfold_rules.specs.Definedness.{Tested, after_symbol, joined_to, joining, names_at, names_in, tested}
use Rattle.m11_scan_expressions.specs.Expressions.{KnownSymbols, has_expression, number_at, number_flags, symbols_at}
use Rattle.m11_scan_expressions.specs.LeftOvers.{has_token, left_over, start_of}
use Rattle.m11_scan_expressions.specs.Remarks.{remarks_of}
use Rattle.m11_unfold_rules.specs.Repeats.{remarks, rept_count}
use Rattle.m11_unfold_rules.specs.declared.definedness.Joint.{Joint}
use Rattle.m11_unfold_rules.specs.declared.definedness.SoFar.{SoFar}
use Rattle.m11_unfold_rules.proofs.Cases.{after_joint, asked_by, compared, first_by, named, named_by, second_by}
use Rattle.m11_base.specs.Devices.{Bytes}
use Rattle.m11_scan.specs.Cutting.{Lexeme, tokens_from}
use Rattle.m11_scan.specs.Ends.{expression_end}
use Rattle.m11_scan.specs.ErrorFlags.{flag_A, flag_I, flag_Q, flag_if}
use Rattle.m11_scan.specs.Skipped.{skipped_between}
use Rattle.m11_scan.specs.declared.conditions.Condition.{Condition}
use Rattle.m11_scan.specs.declared.conditions.Condition.TheVariants.{Zero, NotZero, Positive, Negative, NotNegative, NotPositive, Defined, NotDefined, Identical, Different}
use Rattle.m11_scan_statements.specs.Actuals.{next_actual, separator_at}
use Rattle.m11_scan_statements.specs.declared.actuals.Actual.{Actual}
use Rattle.m11_scan_expressions.specs.declared.names.Symbol.{Symbol}
use Rattle.m11_asm_line_laws.specs.Refusals.{HasBadName, HasFlag, IsSingleText, IsRefused, LacksArgument, asks_names, asks_number, asks_texts}
use Rattle.m11_asm_line_laws.specs.Refusals.HasBadName.{LaterName, MissingName, NoName}
use Rattle.m11_asm_line_laws.specs.Refusals.IsRefused.{Lacking, Unknown, Unnamed}
use Rattle.m11_asm_line_laws.specs.Refusals.LacksArgument.{WithBadName, WithOneText, WithoutNumber, WithoutText}

-- the condition doesn't hold, and its flags are A and perhaps I
pub record IsOff (asked : ConditionResult) : Type 0 where
  pub off : asked.holds ≡ false
  pub skips : Bool
  pub flags : asked.flags ≡ bit_or flag_A (flag_if skips flag_I)

refused_off : (end : ℕ) → IsOff (refused end)
refused_off end = record { off = refl; skips = false; flags = refl }

-- ---- a bad name

bad_verdict : (test : Symbol → Bool) (size : ℕ) (before : Option SoFar) (tokens : List Lexeme) → HasBadName tokens
    → (names_in test size before tokens).verdict ≡ None
bad_verdict test size before _ MissingName = refl
bad_verdict test size before _ (NoName token [] is) =
    ap (λ (s : Option Symbol). (after_symbol size s (λ symbol. record { verdict = Some (joined_to before (test symbol)); end = token.end; symbols = [] })).verdict) is
bad_verdict test size before _ (NoName token (mark ∷ tokens) is) =
    ap (λ (s : Option Symbol). (after_symbol size s (λ symbol.
    after_joint (joined_to before (test symbol)) token.end (joining mark.sort) (λ next. names_in test size next tokens))).verdict) is
bad_verdict test size before _ (LaterName name mark tokens symbol joint is joins later) =
    ap (λ (s : Option Symbol). (after_symbol size s (λ symbol.
    after_joint (joined_to before (test symbol)) name.end (joining mark.sort) (λ next. names_in test size next tokens))).verdict) is
    ∙ ap (λ (j : Option Joint). (after_joint (joined_to before (test symbol)) name.end j (λ next. names_in test size next tokens)).verdict) joins
    ∙ bad_verdict test size (Some (record { holds = joined_to before (test symbol); joint = joint })) tokens later

bad_off : (line : Bytes) (column : ℕ) (names : Tested) (verdict : Option Bool) → verdict ≡ None → IsOff (named line column verdict names)
bad_off line column names None is =
    record { off = refl; skips = skipped_between line column names.end; flags = refl }
bad_off line column names (Some verdict) is = absurd (cc)

defined_off : (known : KnownSymbols) (line : Bytes) (column : ℕ) (wants : Bool) → HasBadName (tokens_from line column)
    → IsOff (defined known line column wants)
defined_off known line column wants bad =
    let names = names_at known wants line column in
    bad_off line column names names.verdict
    (bad_verdict (tested known wants) (length line) None (tokens_from line column) bad)

-- ---- a missing number

numeric_off : (known : KnownSymbols) (line : Bytes) (column : ℕ) (condition : Condition) → has_expression line column ≡ false
    → IsOff (numeric known line column condition)
numeric_off known line column condition none =
    subst (λ (b : Bool). IsOff (if b then compared known line column condition else refused column)) (sym none) (refused_off column)

-- ---- missing texts

without_off : (line : Bytes) (column : ℕ) (wants : Bool) → next_actual line column false ≡ None → IsOff (same line column wants)
without_off line column wants none =
    subst (λ (a : Option Actual). IsOff (first_by line column wants a)) (sym none) (refused_off column)

single_off : (line : Bytes) (column : ℕ) (wants : Bool) (first : Actual) → next_actual line column false ≡ Some first
    → IsSingleText line first → IsOff (same line column wants)
single_off line column wants first some single =
    let separator = separator_at line first.end in
    subst (λ (a : Option Actual). IsOff (first_by line column wants a)) (sym some)
    (subst (λ (a : Option Actual). IsOff (second_by line wants first separator a)) (sym single.second)
    (subst (λ (b : Bool). IsOff (if b then matched wants (text_of line first) [] separator.end (actual_flags first)
    else refused separator.end)) (sym single.comma) (refused_off separator.end)))

-- ---- conditions

number_off : (known : KnownSymbols) (line : Bytes) (column : ℕ) (condition : Condition) → asks_number condition ≡ true
    → has_expression line column ≡ false → IsOff (asked known line column condition)
number_off known line column Zero is none = numeric_off known line column Zero none
number_off known line column NotZero is none = numeric_off known line column NotZero none
number_off known line column Positive is none = numeric_off known line column Positive none
number_off known line column Negative is none = numeric_off known line column Negative none
number_off known line column NotNegative is none = numeric_off known line column NotNegative none
number_off known line column NotPositive is none = numeric_off known line column NotPositive none
number_off known line column _ is none = absurd (false≢true is)

names_off : (known : KnownSymbols) (line : Bytes) (column : ℕ) (condition : Condition) → asks_names condition ≡ true
    → HasBadName (tokens_from line column) → IsOff (asked known line column condition)
names_off known line column Defined is bad = defined_off known line column true bad
names_off known line column NotDefined is bad = defined_off known line column false bad
names_off known line column _ is bad = absurd (false≢true is)

texts_off : (known : KnownSymbols) (line : Bytes) (column : ℕ) (condition : Condition) → asks_texts condition ≡ true
    → ((wants : Bool) → IsOff (same line column wants)) → IsOff (asked known line column condition)
texts_off known line column Identical is off = off true
texts_off known line column Different is off = off false
texts_off known line column _ is off = absurd (false≢true is)

asked_off : (known : KnownSymbols) (line : Bytes) (column : ℕ) (condition : Condition) → LacksArgument line column condition
    → IsOff (asked known line column condition)
asked_off known line column condition (WithoutNumber is none) = number_off known line column condition is none
asked_off known line column condition (WithBadName is bad) = names_off known line column condition is bad
asked_off known line column condition (WithoutText is none) =
    texts_off known line column condition is (λ wants. without_off line column wants none)
asked_off known line column condition (WithOneText is first some single) =
    texts_off known line column condition is (λ wants. single_off line column wants first some single)

refused_named : (known : KnownSymbols) (line : Bytes) (column : ℕ) → IsRefused line column → IsOff (named_by known line (tokens_from line column))
refused_named known line column (Unnamed none) =
    subst (λ (tokens : List Lexeme). IsOff (named_by known line tokens)) (sym none) (refused_off (length line))
refused_named known line column (Unknown name tokens stands none) =
    subst (λ (tokens : List Lexeme). IsOff (named_by known line tokens)) (sym stands)
    (subst (λ (c : Option Condition). IsOff (asked_by known line (separator_at line name.end).end c)) (sym none)
    (refused_off (length line)))
refused_named known line column (Lacking name tokens condition stands some lacks) =
    subst (λ (tokens : List Lexeme). IsOff (named_by known line tokens)) (sym stands)
    (subst (λ (c : Option Condition). IsOff (asked_by known line (separator_at line name.end).end c)) (sym some)
    (asked_off known line (separator_at line name.end).end condition lacks))

has_A : (before skips : Bool) → HasFlag flag_A (bit_or (flag_if before flag_I) (bit_or flag_A (flag_if skips flag_I)))
has_A true true = refl
has_A true false = refl
has_A false true = refl
has_A false false = refl

pub refused-false : (known : KnownSymbols) (line : Bytes) (column : ℕ) → IsRefused line column → (condition known line column).holds ≡ false
refused-false known line column is = (refused_named known line column is).off

pub refused-flagged : (known : KnownSymbols) (line : Bytes) (column : ℕ) → IsRefused line column
    → HasFlag flag_A (condition known line column).flags
refused-flagged known line column is =
    let off = refused_named known line column is in
    let before = skipped_between line column (start_of line (tokens_from line column)) in
    subst (λ (n : ℕ). HasFlag flag_A (bit_or (flag_if before flag_I) n)) (sym off.flags) (has_A before off.skips)

-- ---- repeats

left_A : (is_left skips : Bool) → HasFlag flag_A (bit_or flag_A (bit_or (flag_if is_left flag_Q) (flag_if skips flag_I)))
left_A true true = refl
left_A true false = refl
left_A false true = refl
left_A false false = refl

module _ (known : KnownSymbols) (line : Bytes) (column : ℕ) (none : has_expression line column ≡ false) where
  pub rounds-none : rept_count known line column ≡ 0
  rounds-none = ap (λ (b : Bool). if b then (if is_negative (number_at known line column) then 0 else number_at known line column) else 0) none

  pub rounds-flagged : HasFlag flag_A (remarks known line column).flags
  rounds-flagged =
      subst (λ (b : Bool). HasFlag flag_A (if b then
      remarks_of (bit_or (number_flags known line column) (left_over line (expression_end line column))) (symbols_at line column)
      else remarks_of (bit_or flag_A (left_over line column)) []).flags) (sym none)
      (left_A (has_token (tokens_from line column)) (skipped_between line column (length line)))

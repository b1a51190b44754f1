-- A line has the same labels and the same body in upper and in lower case.
use Rattle.std.proofs.Common.{◌≡◌, ℕ, Bool, false, List, [], ◌∷◌, map, take, Option, Some, None, refl, sym, ap, ◌∙◌, lit<}
use Rattle.std.specs.Prelude.{◌&&◌, ◌==◌, if◌then◌else◌, nat_le, not, option_map, unwrap_or}
use Rattle.std.specs.List.{prefix_len}
use Rattle.std.proofs.lemmas.List.{take-map}
use Rattle.m11_base.specs.NameCharacters.{folded}
use Rattle.m11_scan.specs.Classes.{is_digit}
use Rattle.m11_scan.specs.Cutting.{Lexeme, tokens_from, tokens_of}
use Rattle.std.specs.Int.RustNames.{bit_or}
use Rattle.m11_scan.specs.ErrorFlags.{flag_A, flag_I, flag_L, flag_if}
use Rattle.m11_scan.specs.Numbers.{number_of}
use Rattle.m11_scan.specs.declared.radix.Radix.TheVariants.{Decimal}
use Rattle.m11_scan.specs.declared.sort.Sort.{Sort}
use Rattle.m11_scan.specs.declared.sort.Sort.TheVariants.{Name, LocalSymbol, Colon, Equals, TwoColons, TwoEquals}
use Rattle.m11_scan.specs.Skipped.{skipped_between}
use Rattle.m11_scan.proofs.Folding.{digit-folded, digits-folded, folded_token, if_cong, mark-folded, run-folded, skipped_between-folded, tokens_from-folded}
use Rattle.m11_scan_statements.specs.declared.labels.Label.{Label}
use Rattle.m11_scan_statements.specs.declared.labels.LabelKind.{LabelKind}
use Rattle.m11_scan_statements.specs.declared.labels.LabelKind.TheVariants.{Local, Outside}
use Rattle.m11_scan_statements.specs.Bodies.{assignment_to, body_in, operation, set_by}
use Rattle.m11_scan_statements.specs.Labels.{end_of, is_counter, kind_of, label_of, labels_at, labels_end, labels_in, numbered}
use Rattle.m11_scan_statements.specs.Statements.{body_of, has_outside, label_flags}

-- a line in upper case has the same labels as the line itself
counter-folded : (text : List ℕ) → is_counter (map folded text) ≡ is_counter text
counter-folded [] = refl
counter-folded (byte ∷ []) = mark-folded byte 46 (lit< tt)
counter-folded (byte ∷ (more ∷ text)) = refl

numbered-folded : (text : List ℕ) → numbered (map folded text) ≡ numbered text
numbered-folded text =
    ap (λ (digits : List ℕ). if nat_le 1 (number_of Decimal digits) && nat_le (number_of Decimal digits) 65535
    then Local (number_of Decimal digits) else Outside)
    (ap (λ n. take n (map folded text)) (run-folded is_digit digit-folded text)
    ∙ take-map folded (prefix_len is_digit text) text ∙ digits-folded text)

kind-folded : (sort after : Sort) (text : List ℕ) → kind_of sort after (map folded text) ≡ kind_of sort after text
kind-folded Name Colon text = if_cong (counter-folded text) refl refl
kind-folded Name TwoColons text = if_cong (counter-folded text) refl refl
kind-folded LocalSymbol Colon text = ap Some (numbered-folded text)
kind-folded LocalSymbol TwoColons text = ap Some (numbered-folded text)
kind-folded _ _ text = refl

-- a label of this kind, if there is one; and labels that begin with this one, or none without it
abbrev labelled : Lexeme → ℕ → Option LabelKind → Option Label
labelled name end found =
    option_map (λ kind. record { kind = kind; name = record { start = name.start; end = name.end }; end = end }) found

abbrev before_labels : Option Label → List Label → List Label
before_labels found labels = elim found [ None ↦ [] | Some label ↦ label ∷ labels ]

labelled-folded : (name : Lexeme) (end : ℕ) (kind : Option LabelKind)
    → labelled (folded_token name) end kind ≡ labelled name end kind
unfolding folded_token
labelled-folded name end None = refl
labelled-folded name end (Some kind) = refl

label-folded : (name colon : Lexeme) → label_of (folded_token name) (folded_token colon) ≡ label_of name colon
unfolding folded_token
label-folded name colon =
    ap (λ label. if name.end == colon.start then label else None)
    (labelled-folded name colon.end (kind_of name.sort colon.sort (map folded name.text))
    ∙ ap (labelled name colon.end) (kind-folded name.sort colon.sort name.text))

labels_in-folded : (tokens : List Lexeme) → labels_in (map folded_token tokens) ≡ labels_in tokens
labels_in-folded [] = refl
labels_in-folded (name ∷ []) = refl
labels_in-folded (name ∷ (colon ∷ tokens)) =
    λ i. before_labels (label-folded name colon i) (labels_in-folded tokens i)

labels_at-folded : (line : List ℕ) → labels_at (map folded line) ≡ labels_at line
labels_at-folded line = ap labels_in (tokens_from-folded line 0) ∙ labels_in-folded (tokens_of line)

-- a line in upper case has the same body as the line itself
set-folded : (sort sign : Sort) (target : Lexeme) (value : ℕ)
    → set_by sort sign (folded_token target) value ≡ set_by sort sign target value
unfolding folded_token
set-folded Name Equals target value = if_cong (counter-folded target.text) refl refl
set-folded Name TwoEquals target value = if_cong (counter-folded target.text) refl refl
set-folded _ _ target value = refl

assignment-folded : (line : List ℕ) (target : Lexeme) (tokens : List Lexeme)
    → assignment_to (map folded line) (folded_token target) (map folded_token tokens) ≡ assignment_to line target tokens
unfolding folded_token
assignment-folded line target [] = refl
assignment-folded line target (equals ∷ tokens) =
    if_cong (skipped_between-folded line target.end equals.start) refl (set-folded target.sort equals.sort target equals.end)

-- whether a token of this sort and text is a name other than `.`
abbrev names : Sort → List ℕ → Bool
names sort text = elim sort [ Name ↦ not (is_counter text) | _ ↦ false ]

names-folded : (sort : Sort) (text : List ℕ) → names sort (map folded text) ≡ names sort text
names-folded Name text = ap not (counter-folded text)
names-folded _ text = refl

operation-folded : (first : Lexeme) → operation (folded_token first) ≡ operation first
unfolding folded_token
operation-folded first = if_cong (names-folded first.sort first.text) refl refl

body_in-folded : (line : List ℕ) (tokens : List Lexeme)
    → body_in (map folded line) (map folded_token tokens) ≡ body_in line tokens
body_in-folded line [] = refl
body_in-folded line (first ∷ tokens) = λ i. unwrap_or (assignment-folded line first tokens i) (operation-folded first i)

body_of-folded : (line : List ℕ) → body_of (map folded line) ≡ body_of line
body_of-folded line =
    ap (λ n. body_in (map folded line) (tokens_from (map folded line) n)) (ap (end_of 0) (labels_at-folded line))
    ∙ ap (body_in (map folded line)) (tokens_from-folded line (labels_end line))
    ∙ body_in-folded line (tokens_from line (labels_end line))

-- lines that differ only in the case of letters have the same labels, bodies and flags
module _ (a b : List ℕ) (same : map folded a ≡ map folded b) where
  pub same_labels : labels_at a ≡ labels_at b
  same_labels = sym (labels_at-folded a) ∙ ap labels_at same ∙ labels_at-folded b

  pub same_body : body_of a ≡ body_of b
  same_body = sym (body_of-folded a) ∙ ap body_of same ∙ body_of-folded b

  label_flags-folded : (line : List ℕ) (is_over_long : Bool)
      → label_flags (record { text = map folded line; is_over_long = is_over_long })
      ≡ label_flags (record { text = line; is_over_long = is_over_long })
  label_flags-folded line is_over_long =
      ap (λ (labels : List Label). bit_or (bit_or (flag_if is_over_long flag_L) (flag_if (has_outside labels) flag_A))
      (flag_if (skipped_between (map folded line) 0 (end_of 0 labels)) flag_I)) (labels_at-folded line)
      ∙ ap (λ skipped. bit_or (bit_or (flag_if is_over_long flag_L) (flag_if (has_outside (labels_at line)) flag_A))
      (flag_if skipped flag_I)) (skipped_between-folded line 0 (labels_end line))

  pub same_label_flags : (is_over_long : Bool)
      → label_flags (record { text = a; is_over_long = is_over_long })
      ≡ label_flags (record { text = b; is_over_long = is_over_long })
  same_label_flags is_over_long =
      sym (label_flags-folded a is_over_long)
      ∙ ap (λ text. label_flags (record { text = text; is_over_long = is_over_long })) same
      ∙ label_flags-folded b is_over_long

pub ruleset cases = (same_labels, same_body, same_label_flags)

-- What is written as a statement is read as it.
use Rattle.std.proofs.Common.{◌≡◌, ℕ, suc, ◌+◌, ◌-◌, ◌<◌, Bool, true, false, cond, not, ◌&&◌, ◌||◌, List, [], ◌∷◌, ◌++◌, length, take, drop, map, ◌⊎◌, inl, inr, refl, sym, ap, ◌∙◌, subst, arith, append_assoc, append-nil, codes}
use Rattle.std.specs.Prelude.{◌==◌, nat_le, if◌then◌else◌}
use Rattle.std.specs.List.{list_all, list_any, prefix_len}
use Rattle.std.proofs.Math.Seq.{take-append_seam, drop-append_seam}
use Rattle.std.proofs.lemmas.Bool.{le-leb, eqb-true}
use Rattle.std.proofs.lemmas.List.{drop-drop, length-append, length-drop}
use Rattle.m11_base.specs.Devices.{Bytes}
use Rattle.m11_base.specs.NameCharacters.{is_name_character}
use Rattle.m11_scan.specs.Classes.{is_blank, is_digit}
use Rattle.m11_scan.specs.Cutting.{Lexeme, lexemes_at, lexemes_from, pieces_of, text_between, tokens_from}
use Rattle.m11_scan.specs.Pieces.{first_piece, number_ending}
use Rattle.m11_scan.specs.Skipped.{has_skipped, is_skipped, skipped_between}
use Rattle.m11_scan.specs.declared.pieces.Piece.{Piece}
use Rattle.m11_scan.specs.declared.sort.Form.{Form}
use Rattle.m11_scan.specs.declared.sort.Form.TheVariants.{Cut, Blank, Comment, Skipped}
use Rattle.m11_scan.specs.declared.sort.Sort.{Sort}
use Rattle.m11_scan.specs.declared.sort.Sort.TheVariants.{Name, LocalSymbol, Colon, TwoColons}
use Rattle.m11_scan.proofs.NextPieces.{pieces_of-first}
use Rattle.m11_scan.proofs.OnlyCut.{pieces_of-cut}
use Rattle.m11_scan_statements.specs.Labels.{is_counter, labels_at, end_of, numbered}
use Rattle.m11_scan_statements.specs.Statements.{body_of}
use Rattle.m11_scan_statements.specs.declared.bodies.Body.{Body}
use Rattle.m11_scan_statements.specs.declared.bodies.Body.TheVariants as bodies
use Rattle.m11_scan_statements.specs.declared.labels.Label.{Label}
use Rattle.m11_scan_statements.specs.declared.labels.LabelKind.{LabelKind}
use Rattle.m11_scan_statements.specs.declared.labels.LabelKind.TheVariants.{Global}
use Rattle.m11_asm_line_laws.specs.Printed.{AreBlanks, BodyTree, IsWritten, IsWrittenBody, IsWrittenLabel, LabelTree, StatementTree, are_arguments, begins_with, body_tree, colons, equals, example_tree, follows_operator, is_name_text, label_tree, leaves_operator, opens_arguments, opens_words, tree_of}
use Rattle.m11_asm_line_laws.specs.Printed.BodyTree.{Nothing, Assignment, Counter, Operator, Words}
use Rattle.m11_asm_line_laws.specs.Printed.IsWritten.{WithBody, WithLabel}
use Rattle.m11_asm_line_laws.specs.Printed.IsWrittenBody.{WrittenAssignment, WrittenComment, WrittenCounter, WrittenNothing, WrittenOperator, WrittenWords}
use Rattle.m11_asm_line_laws.specs.Printed.IsWrittenLabel.{WrittenName, WrittenNumber}
use Rattle.m11_asm_line_laws.specs.Written.{AreLabelled, BeginUnlabelled, IsBehind, IsLabel, IsUnassigned, Says, colon_of, equals_of, label_with, ordinary_kind}
use Rattle.m11_asm_line_laws.specs.Written.AreLabelled.{Labelled, Unlabelled}
use Rattle.m11_asm_line_laws.specs.Written.IsLabel.{LocalLabel, NamedLabel}
use Rattle.m11_asm_line_laws.specs.Written.Says.{SaysAssignment, SaysCounter, SaysNothing, SaysOperator, SaysWords}
use Rattle.m11_asm_line_laws.proofs.Columns.{two_ways}
use Rattle.m11_asm_line_laws.proofs.ReadAsWritten.{bodies-written, labels-written}

-- ---- the text of a line at a column

-- after the first characters at a column, the rest is left
past : (line first rest : Bytes) (column : ℕ) → drop column line ≡ first ++ rest → drop (column + length first) line ≡ rest
past line first rest column at =
    sym (drop-drop (length first) column line) ∙ ap (drop (length first)) at ∙ drop-append_seam first rest

-- the text between two columns is what is written there
between : (line first rest : Bytes) (column : ℕ) → drop column line ≡ first ++ rest → 0 < length first
    → text_between line column (column + length first) ≡ first
between line first rest column at some =
    let sized : length line - column ≡ length first + length rest =
    sym (length-drop column line) ∙ ap length at ∙ length-append first rest in
    let starts : nat_le column (column + length first) ≡ true = le-leb column (column + length first) (omega arith) in
    let ends : nat_le (column + length first) (length line) ≡ true =
    le-leb (column + length first) (length line) (omega (arith, sized)) in
    let size : column + length first - column ≡ length first = omega arith in
    rw (starts, ends) (ap (λ n. take n (drop column line)) size ∙ ap (take (length first)) at ∙ take-append_seam first rest)

-- ---- the first piece of a text

abbrev piece : Form → ℕ → Piece
piece form length = record { form = form; length = length }

-- a text begins with these characters as its first piece, which has this form
record Begins (form : Form) (first rest : Bytes) : Type 0 where
  some : 0 < length first
  is : first_piece (first ++ rest) ≡ piece form (length first)

module _ (form : Form) (first rest : Bytes) (begins : Begins form first rest) where
  pieces_first : pieces_of (first ++ rest) ≡ piece form (length first) ∷ pieces_of rest
  pieces_first =
      let P : Piece → Type 0 = λ p. 0 < p.length in
      pieces_of-first (first ++ rest) (omega (arith, length-append first rest, begins.some)) (subst P (sym begins.is) begins.some)
      ∙ ap (λ p. p ∷ pieces_of (drop p.length (first ++ rest))) begins.is
      ∙ ap (λ text. piece form (length first) ∷ pieces_of text) (drop-append_seam first rest)

  tokens_first : (line : Bytes) (column : ℕ) → drop column line ≡ first ++ rest
      → tokens_from line column
      ≡ lexemes_at line column (column + length first) form ++ tokens_from line (column + length first)
  tokens_first line column at =
      ap (λ text. lexemes_from line column (pieces_of text)) at
      ∙ ap (lexemes_from line column) pieces_first
      ∙ ap (λ text. lexemes_at line column (column + length first) form
      ++ lexemes_from line (column + length first) (pieces_of text)) (sym (past line first rest column at))

-- ---- names, numbers, marks, blanks and comments

if_true : {A : Type 0} (b : Bool) (x y : A) → b ≡ true → (if b then x else y) ≡ x
if_true b x y is = ap (λ c. if c then x else y) is

if_false : {A : Type 0} (b : Bool) (x y : A) → b ≡ false → (if b then x else y) ≡ y
if_false b x y is = ap (λ c. if c then x else y) is

both : (a b : Bool) → (a && b) ≡ true → (a ≡ true) × (b ≡ true)
both true b e = (refl, e)
both false b e = absurd (cc)

not_so : (b : Bool) → not b ≡ true → b ≡ false
not_so true e = absurd (cc)
not_so false e = refl

one_more : (n : ℕ) → 1 + n ≡ suc n
one_more n = omega arith

prefix_all : (passes : ℕ → Bool) (xs rest : Bytes) → list_all passes xs ≡ true → prefix_len passes rest ≡ 0
    → prefix_len passes (xs ++ rest) ≡ length xs
prefix_all passes [] rest all stops = stops
prefix_all passes (x ∷ xs) rest all stops =
    let now = both (passes x) (list_all passes xs) all in
    ap (λ b. cond b (1 + prefix_len passes (xs ++ rest)) 0) now.0
    ∙ ap (λ n. 1 + n) (prefix_all passes xs rest now.1 stops) ∙ one_more (length xs)

either : (a b : Bool) → (a || b) ≡ true → (a ≡ true) ⊎ (b ≡ true)
either true b e = inl refl
either false b e = inr e

blank_is : (byte : ℕ) → is_blank byte ≡ true → (byte ≡ 0o40) ⊎ (byte ≡ 0o11)
blank_is byte blank =
    elim (either (byte == 0o40) (byte == 0o11) blank) [
      | inl is ↦ inl (eqb-true byte 0o40 is)
      | inr is ↦ inr (eqb-true byte 0o11 is)
    ]

blank_begins : (byte : ℕ) (rest : Bytes) → is_blank byte ≡ true → Begins Blank (byte ∷ []) rest
unfolding first_piece
blank_begins byte rest blank =
    let P : ℕ → Type 0 = λ b. first_piece (b ∷ rest) ≡ piece Blank 1 in
    record {
      some = omega arith;
      is = elim (blank_is byte blank) [
        | inl is ↦ subst P (sym is) refl
        | inr is ↦ subst P (sym is) refl
      ];
    }

blank_unnamed : (byte : ℕ) → is_blank byte ≡ true → is_name_character byte ≡ false
blank_unnamed byte blank =
    let P : ℕ → Type 0 = λ b. is_name_character b ≡ false in
    elim (blank_is byte blank) [
      | inl is ↦ subst P (sym is) refl
      | inr is ↦ subst P (sym is) refl
    ]

-- a text doesn't go on a name
record Stops (text : Bytes) : Type 0 where
  stops : prefix_len is_name_character text ≡ 0

stops_at : (byte : ℕ) (text : Bytes) → is_name_character byte ≡ false → Stops (byte ∷ text)
stops_at byte text other = record {
  stops = ap (λ b. cond b (1 + prefix_len is_name_character text) 0) other;
}

name_begins : (name rest : Bytes) → is_name_text name ≡ true → Stops rest → Begins (Cut Name) name rest
unfolding first_piece
name_begins [] rest named stops = absurd (cc)
name_begins (byte ∷ name) rest named stops =
    let parts = both (not (is_digit byte)) (list_all is_name_character (byte ∷ name)) named in
    let first = both (is_name_character byte) (list_all is_name_character name) parts.1 in
    record {
      some = omega arith;
      is = if_false (is_digit byte) _ _ (not_so (is_digit byte) parts.0) ∙ if_true (is_name_character byte) _ _ first.0
          ∙ ap (λ n. piece (Cut Name) n) (prefix_all is_name_character (byte ∷ name) rest parts.1 stops.stops);
    }

number_begins : (digits rest : Bytes) → 0 < length digits → list_all is_digit digits ≡ true
    → Begins (Cut LocalSymbol) (digits ++ 0o44 ∷ []) rest
unfolding first_piece
number_begins [] rest some all = absurd (omega arith)
number_begins (byte ∷ digits) rest some all =
    let first = both (is_digit byte) (list_all is_digit digits) all in
    let text : Bytes = (byte ∷ digits) ++ 0o44 ∷ rest in
    let same : ((byte ∷ digits) ++ 0o44 ∷ []) ++ rest ≡ text = append_assoc (byte ∷ digits) (0o44 ∷ []) rest in
    let run : prefix_len is_digit text ≡ length (byte ∷ digits) = prefix_all is_digit (byte ∷ digits) (0o44 ∷ rest) all refl in
    record {
      some = omega (arith, length-append (byte ∷ digits) (0o44 ∷ []));
      is = ap first_piece same ∙ if_true (is_digit byte) _ _ first.0
          ∙ ap (λ n. number_ending n (drop n text)) run
          ∙ ap (number_ending (length (byte ∷ digits))) (drop-append_seam (byte ∷ digits) (0o44 ∷ rest))
          ∙ ap (λ n. piece (Cut LocalSymbol) n) (sym (length-append (byte ∷ digits) (0o44 ∷ [])));
    }

colons_begin : (has_two : Bool) (rest : Bytes) → begins_with 0o72 rest ≡ false
    → Begins (Cut (colon_of has_two)) (colons has_two) rest
unfolding first_piece
colons_begin true rest other = record { some = omega arith; is = refl }
colons_begin false [] other = record { some = omega arith; is = refl }
colons_begin false (next ∷ rest) other = record { some = omega arith; is = if_false (next == 0o72) _ _ other }

equals_begin : (is_global : Bool) (rest : Bytes) → begins_with 0o75 rest ≡ false
    → Begins (Cut (equals_of is_global)) (equals is_global) rest
unfolding first_piece
equals_begin true rest other = record { some = omega arith; is = refl }
equals_begin false [] other = record { some = omega arith; is = refl }
equals_begin false (next ∷ rest) other = record { some = omega arith; is = if_false (next == 0o75) _ _ other }

comment_begins : (text : Bytes) → Begins Comment (0o73 ∷ text) []
unfolding first_piece
comment_begins text = record {
  some = omega arith;
  is = ap (λ t. piece Comment (length t)) (append-nil (0o73 ∷ text));
}

-- ---- blanks

-- blanks and tabs are no tokens
tokens_past_blanks : (blanks rest line : Bytes) (column : ℕ) → AreBlanks blanks → drop column line ≡ blanks ++ rest
    → tokens_from line column ≡ tokens_from line (column + length blanks)
tokens_past_blanks [] rest line column blank at = let e : column ≡ column + 0 = omega arith in ap (tokens_from line) e
tokens_past_blanks (byte ∷ blanks) rest line column blank at =
    let first = blank_begins byte (blanks ++ rest) blank.0 in
    let on : column + 1 + length blanks ≡ column + length (byte ∷ blanks) = omega arith in
    tokens_first Blank (byte ∷ []) (blanks ++ rest) first line column at
    ∙ tokens_past_blanks blanks rest line (column + 1) blank.1 (past line (byte ∷ []) (blanks ++ rest) column at)
    ∙ ap (tokens_from line) on

-- blanks and tabs aren't skipped characters
none_skipped : (blanks : Bytes) → AreBlanks blanks → has_skipped blanks ≡ false
none_skipped [] blank = refl
none_skipped (byte ∷ blanks) blank =
    ap (list_any (λ (p : Piece). is_skipped p.form)) (pieces_first Blank (byte ∷ []) blanks (blank_begins byte blanks blank.0))
    ∙ none_skipped blanks blank.1

abbrev nothing : Bytes
nothing = []

either_none : (b : Bool) → (if b then nothing else nothing) ≡ nothing
either_none true = refl
either_none false = refl

none_between : (line : Bytes) (column : ℕ) → text_between line column (column + 0) ≡ []
none_between line column =
    let same : column + 0 - column ≡ 0 = omega arith in
    let or_not : (b : Bool) → (if b then take (column + 0 - column) (drop column line) else []) ≡ [] =
    λ b. ap (λ n. if b then take n (drop column line) else []) same ∙ either_none b in
    or_not (nat_le column (column + 0) && nat_le (column + 0) (length line))

blanks_between : (blanks rest line : Bytes) (column : ℕ) → AreBlanks blanks → drop column line ≡ blanks ++ rest
    → skipped_between line column (column + length blanks) ≡ false
blanks_between [] rest line column blank at = ap has_skipped (none_between line column)
blanks_between (byte ∷ blanks) rest line column blank at =
    ap has_skipped (between line (byte ∷ blanks) rest column at (omega arith)) ∙ none_skipped (byte ∷ blanks) blank

blanks_stop : (blanks rest : Bytes) → AreBlanks blanks → Stops rest → Stops (blanks ++ rest)
blanks_stop [] rest blank stops = stops
blanks_stop (byte ∷ blanks) rest blank stops = stops_at byte (blanks ++ rest) (blank_unnamed byte blank.0)

-- ---- labels

abbrev lexeme_at : Bytes → Sort → ℕ → ℕ → Lexeme
lexeme_at line sort start end = record { sort = sort; start = start; end = end; text = text_between line start end }

-- a label is read at a column where it is written, and this text is left after it
record LabelRead (line : Bytes) (column : ℕ) (label : LabelTree) (rest : Bytes) : Type 0 where
  name : Lexeme
  colon : Lexeme
  kind : LabelKind
  is : IsLabel name colon kind
  tokens : tokens_from line column ≡ name ∷ (colon ∷ tokens_from line colon.end)
  tree : label_tree line (label_with name colon kind) ≡ label
  left : drop colon.end line ≡ rest

module _ (line : Bytes) (column : ℕ) (sort : Sort) (text rest : Bytes) (has_two : Bool)
    (begins : Begins (Cut sort) text (colons has_two ++ rest)) (alone : begins_with 0o72 rest ≡ false)
    (at : drop column line ≡ (text ++ colons has_two) ++ rest) where
  abbrev name_end : ℕ
  name_end = column + length text

  abbrev colon_end : ℕ
  colon_end = name_end + length (colons has_two)

  at_name : drop column line ≡ text ++ (colons has_two ++ rest)
  at_name = at ∙ append_assoc text (colons has_two) rest

  at_colons : drop name_end line ≡ colons has_two ++ rest
  at_colons = past line text (colons has_two ++ rest) column at_name

  label_tokens : tokens_from line column
      ≡ lexeme_at line sort column name_end
      ∷ (lexeme_at line (colon_of has_two) name_end colon_end ∷ tokens_from line colon_end)
  label_tokens =
      tokens_first (Cut sort) text (colons has_two ++ rest) begins line column at_name
      ∙ ap (λ ts. lexeme_at line sort column name_end ∷ ts)
      (tokens_first (Cut (colon_of has_two)) (colons has_two) rest (colons_begin has_two rest alone) line name_end at_colons)

  label_text : text_between line column name_end ≡ text
  label_text = between line text (colons has_two ++ rest) column at_name begins.some

  label_left : drop colon_end line ≡ rest
  label_left = past line (colons has_two) rest name_end at_colons

colons_stop : (has_two : Bool) (rest : Bytes) → Stops (colons has_two ++ rest)
colons_stop true rest = stops_at 0o72 (0o72 ∷ rest) refl
colons_stop false rest = stops_at 0o72 rest refl

label_read : (label : LabelTree) (written rest line : Bytes) (column : ℕ) → IsWrittenLabel label written
    → begins_with 0o72 rest ≡ false → drop column line ≡ written ++ rest → LabelRead line column label rest
label_read _ _ rest line column (WrittenName name is_global named) alone at =
    let begins = name_begins name (colons is_global ++ rest) named.named (colons_stop is_global rest) in
    let text = label_text line column Name name rest is_global begins alone at in
    record {
      name = lexeme_at line Name column (column + length name);
      colon = lexeme_at line (colon_of is_global) (column + length name) (column + length name + length (colons is_global));
      kind = ordinary_kind is_global;
      is = NamedLabel is_global refl (record { sort = refl; text = ap is_counter text ∙ named.other }) refl;
      tokens = label_tokens line column Name name rest is_global begins alone at;
      tree = ap (λ t. record { text = t; kind = ordinary_kind is_global }) text;
      left = label_left line column Name name rest is_global begins alone at;
    }
label_read _ _ rest line column (WrittenNumber digits has_two some all) alone at =
    let name : Bytes = digits ++ 0o44 ∷ [] in
    let begins = number_begins digits (colons has_two ++ rest) some all in
    let text = label_text line column LocalSymbol name rest has_two begins alone at in
    record {
      name = lexeme_at line LocalSymbol column (column + length name);
      colon = lexeme_at line (colon_of has_two) (column + length name) (column + length name + length (colons has_two));
      kind = numbered (text_between line column (column + length name));
      is = LocalLabel has_two refl refl refl;
      tokens = label_tokens line column LocalSymbol name rest has_two begins alone at;
      tree = ap (λ t. record { text = t; kind = numbered t }) text;
      left = label_left line column LocalSymbol name rest has_two begins alone at;
    }

-- ---- bodies

-- what is written after the labels is read at its column
record BodyRead (line : Bytes) (column : ℕ) (body : BodyTree) : Type 0 where
  read : Body
  unlabelled : BeginUnlabelled (tokens_from line column)
  says : Says line (tokens_from line column) read
  tree : body_tree line read ≡ body

body_as : (line : Bytes) (column : ℕ) (body : BodyTree) (tokens : List Lexeme) (read : Body)
    → tokens_from line column ≡ tokens → BeginUnlabelled tokens → Says line tokens read → body_tree line read ≡ body
    → BodyRead line column body
body_as line column body tokens read are unlabelled says tree =
    let P : List Lexeme → Type 0 = λ ts. Says line ts read in
    let Q : List Lexeme → Type 0 = λ ts. BeginUnlabelled ts in
    record { read = read; unlabelled = subst Q (sym are) unlabelled; says = subst P (sym are) says; tree = tree }

none_left : (line : Bytes) (column : ℕ) → drop column line ≡ [] → tokens_from line column ≡ []
none_left line column at = ap (λ text. lexemes_from line column (pieces_of text)) at

comment_left : (line text : Bytes) (column : ℕ) → drop column line ≡ 0o73 ∷ text → tokens_from line column ≡ []
comment_left line text column at =
    let whole : drop column line ≡ (0o73 ∷ text) ++ [] = at ∙ sym (append-nil (0o73 ∷ text)) in
    tokens_first Comment (0o73 ∷ text) [] (comment_begins text) line column whole
    ∙ none_left line (column + length (0o73 ∷ text)) (past line (0o73 ∷ text) [] column whole)

not_both : (has_two is_global : Bool) → colon_of has_two ≡ equals_of is_global → ⊥
not_both true true e = cc
not_both true false e = cc
not_both false true e = cc
not_both false false e = cc

equals_unlabelled : (name sign : Lexeme) (is_global : Bool) → sign.sort ≡ equals_of is_global → (kind : LabelKind)
    → IsLabel name sign kind → ⊥
equals_unlabelled name sign is_global is _ (NamedLabel has_two direct named colon) = not_both has_two is_global (sym colon ∙ is)
equals_unlabelled name sign is_global is _ (LocalLabel has_two direct local colon) = not_both has_two is_global (sym colon ∙ is)

equals_stop : (is_global : Bool) (rest : Bytes) → Stops (equals is_global ++ rest)
equals_stop true rest = stops_at 0o75 (0o75 ∷ rest) refl
equals_stop false rest = stops_at 0o75 rest refl

-- an assignment to a name or to `.`
module _ (line : Bytes) (column : ℕ) (name blanks : Bytes) (is_global : Bool) (value : Bytes)
    (named : is_name_text name ≡ true) (blank : AreBlanks blanks) (alone : begins_with 0o75 value ≡ false)
    (at : drop column line ≡ name ++ (blanks ++ (equals is_global ++ value))) where
  abbrev target_end : ℕ
  target_end = column + length name

  abbrev sign_start : ℕ
  sign_start = target_end + length blanks

  abbrev sign_end : ℕ
  sign_end = sign_start + length (equals is_global)

  abbrev target : Lexeme
  target = lexeme_at line Name column target_end

  abbrev sign : Lexeme
  sign = lexeme_at line (equals_of is_global) sign_start sign_end

  target_begins : Begins (Cut Name) name (blanks ++ (equals is_global ++ value))
  target_begins =
      name_begins name (blanks ++ (equals is_global ++ value)) named
      (blanks_stop blanks (equals is_global ++ value) blank (equals_stop is_global value))

  at_blanks : drop target_end line ≡ blanks ++ (equals is_global ++ value)
  at_blanks = past line name (blanks ++ (equals is_global ++ value)) column at

  at_sign : drop sign_start line ≡ equals is_global ++ value
  at_sign = past line blanks (equals is_global ++ value) target_end at_blanks

  value_left : drop sign_end line ≡ value
  value_left = past line (equals is_global) value sign_start at_sign

  assigning : tokens_from line column ≡ target ∷ (sign ∷ tokens_from line sign_end)
  assigning =
      tokens_first (Cut Name) name (blanks ++ (equals is_global ++ value)) target_begins line column at
      ∙ ap (λ ts. target ∷ ts) (tokens_past_blanks blanks (equals is_global ++ value) line target_end blank at_blanks
      ∙ tokens_first (Cut (equals_of is_global)) (equals is_global) value (equals_begin is_global value alone) line sign_start at_sign)

  target_text : text_between line column target_end ≡ name
  target_text = between line name (blanks ++ (equals is_global ++ value)) column at target_begins.some

  is_behind : IsBehind line target sign
  is_behind = blanks_between blanks (equals is_global ++ value) line target_end blank at_blanks

-- the tokens after an operator make it neither a label nor an assignment
abbrev NoColon : ℕ → List Lexeme → Type 0
NoColon end [] = Unit {0}
NoColon end (token ∷ tokens) = (has_two : Bool) → end ≡ token.start → token.sort ≡ colon_of has_two → ⊥

abbrev NoEquals : List Lexeme → Type 0
NoEquals [] = Unit {0}
NoEquals (token ∷ tokens) = (is_global : Bool) → token.sort ≡ equals_of is_global → ⊥

unassigned : (line : Bytes) (name : Lexeme) (tokens : List Lexeme) → NoEquals tokens → IsUnassigned line name tokens
unassigned line name [] none = tt
unassigned line name (token ∷ tokens) none = λ is_global behind is. none is_global is

no_label : (name token : Lexeme) (kind : LabelKind) → IsLabel name token kind
    → ((has_two : Bool) → name.end ≡ token.start → token.sort ≡ colon_of has_two → ⊥) → ⊥
no_label name token _ (NamedLabel has_two direct named colon) none = none has_two direct colon
no_label name token _ (LocalLabel has_two direct local colon) none = none has_two direct colon

unlabelled_by : (name : Lexeme) (tokens : List Lexeme) → NoColon name.end tokens → BeginUnlabelled (name ∷ tokens)
unlabelled_by name [] none = tt
unlabelled_by name (token ∷ tokens) none = λ kind is. no_label name token kind is none

no_equals : (sort : Sort) (is_global : Bool) → opens_arguments (Cut sort) ≡ true → sort ≡ equals_of is_global → ⊥
no_equals sort true opens is =
    let bad : false ≡ true = ap (λ s. opens_arguments (Cut s)) (sym is) ∙ opens in cc
no_equals sort false opens is =
    let bad : false ≡ true = ap (λ s. opens_arguments (Cut s)) (sym is) ∙ opens in cc

no_colon : (sort : Sort) (has_two : Bool) → leaves_operator (Cut sort) ≡ true → sort ≡ colon_of has_two → ⊥
no_colon sort true leaves is =
    let bad : false ≡ true = ap (λ s. leaves_operator (Cut s)) (sym is) ∙ leaves in cc
no_colon sort false leaves is =
    let bad : false ≡ true = ap (λ s. leaves_operator (Cut s)) (sym is) ∙ leaves in cc

-- the tokens at a column are its first piece, if it is a token, and further ones
abbrev further : Bytes → ℕ → Bytes → List Lexeme
further line column text =
    lexemes_from line (column + (first_piece text).length) (pieces_of (drop (first_piece text).length text))

pieces_here : (line : Bytes) (column byte : ℕ) (text : Bytes) → drop column line ≡ byte ∷ text
    → tokens_from line column
    ≡ lexemes_at line column (column + (first_piece (byte ∷ text)).length) (first_piece (byte ∷ text)).form
    ++ further line column (byte ∷ text)
pieces_here line column byte text at =
    let some : 0 < length (byte ∷ text) = omega arith in
    ap (λ t. lexemes_from line column (pieces_of t)) at
    ∙ ap (lexemes_from line column) (pieces_of-first (byte ∷ text) some (pieces_of-cut (byte ∷ text)).0.begins)

-- ---- the tokens after the name of an operator

-- these are the tokens at a column, and they belong to arguments
record Arguments (line : Bytes) (column : ℕ) : Type 0 where
  tokens : List Lexeme
  is : tokens_from line column ≡ tokens
  none : NoEquals tokens
  -- they begin at the column or later
  later : (first : ℕ) → first < column → NoColon first tokens

opened : (line : Bytes) (column end : ℕ) (form : Form) (more : List Lexeme) → opens_arguments form ≡ true
    → tokens_from line column ≡ lexemes_at line column end form ++ more → Arguments line column
opened line column end (Cut sort) more opens is = record {
  tokens = lexeme_at line sort column end ∷ more;
  is = is;
  none = λ is_global e. no_equals sort is_global opens e;
  later = λ first before has_two direct e. let same : first ≡ column = direct in absurd (omega (arith, same));
}
opened line column end Blank more opens is = absurd (cc)
opened line column end Comment more opens is = absurd (cc)
opened line column end Skipped more opens is = absurd (cc)

empty : (line : Bytes) (column : ℕ) → tokens_from line column ≡ [] → Arguments line column
empty line column is = record { tokens = []; is = is; none = tt; later = λ first before. tt }

-- arguments that begin with a blank are those after it
after_blank : (line : Bytes) (column byte : ℕ) (text : Bytes) → is_blank byte ≡ true → drop column line ≡ byte ∷ text
    → Arguments line (column + 1) → Arguments line column
after_blank line column byte text blank at more = record {
  tokens = more.tokens;
  is = tokens_first Blank (byte ∷ []) text (blank_begins byte text blank) line column at ∙ more.is;
  none = more.none;
  later = λ first before. more.later first (omega (arith, before));
}

arguments_read : (text line : Bytes) (column : ℕ) → are_arguments text ≡ true → drop column line ≡ text → Arguments line column
arguments_read [] line column are at = empty line column (none_left line column at)
arguments_read (byte ∷ text) line column are at =
    elim (two_ways (is_blank byte)) [
      | inl blank ↦
          let left : drop (column + 1) line ≡ text = past line (byte ∷ []) text column at in
          after_blank line column byte text blank at
          (arguments_read text line (column + 1) (sym (if_true (is_blank byte) _ _ blank) ∙ are) left)
      | inr other ↦ elim (either (byte == 0o73) _ (sym (if_false (is_blank byte) _ _ other) ∙ are)) [
        | inl comment ↦
            let e : byte ≡ 0o73 = eqb-true byte 0o73 comment in
            empty line column (comment_left line text column (at ∙ ap (λ b. b ∷ text) e))
        | inr opens ↦
            opened line column (column + (first_piece (byte ∷ text)).length) (first_piece (byte ∷ text)).form
            (further line column (byte ∷ text)) opens (pieces_here line column byte text at)
      ]
    ]

-- what follows the name of an operator at a column
record AfterOperator (line : Bytes) (column : ℕ) (text : Bytes) : Type 0 where
  tokens : List Lexeme
  is : tokens_from line column ≡ tokens
  none : NoEquals tokens
  alone : NoColon column tokens
  stops : Stops text

opens_cut : (sort : Sort) → leaves_operator (Cut sort) ≡ true → opens_arguments (Cut sort) ≡ true
opens_cut Colon leaves = absurd (cc)
opens_cut TwoColons leaves = absurd (cc)
opens_cut sort leaves = leaves

leaves_opens : (form : Form) → leaves_operator form ≡ true → opens_arguments form ≡ true
leaves_opens (Cut sort) leaves = opens_cut sort leaves
leaves_opens Blank leaves = leaves
leaves_opens Comment leaves = leaves
leaves_opens Skipped leaves = leaves

followed : (line : Bytes) (column end : ℕ) (text : Bytes) (form : Form) (more : List Lexeme) → Stops text
    → leaves_operator form ≡ true → tokens_from line column ≡ lexemes_at line column end form ++ more
    → AfterOperator line column text
followed line column end text (Cut sort) more stops leaves is = record {
  tokens = lexeme_at line sort column end ∷ more;
  is = is;
  none = λ is_global e. no_equals sort is_global (leaves_opens (Cut sort) leaves) e;
  alone = λ has_two direct e. no_colon sort has_two leaves e;
  stops = stops;
}
followed line column end text Blank more stops leaves is = absurd (cc)
followed line column end text Comment more stops leaves is = absurd (cc)
followed line column end text Skipped more stops leaves is = absurd (cc)

operator_followed : (text line : Bytes) (column : ℕ) → follows_operator text ≡ true → drop column line ≡ text
    → AfterOperator line column text
operator_followed [] line column follows at =
    record { tokens = []; is = none_left line column at; none = tt; alone = tt; stops = record { stops = refl } }
operator_followed (byte ∷ text) line column follows at =
    elim (two_ways (is_blank byte)) [
      | inl blank ↦
          let left : drop (column + 1) line ≡ text = past line (byte ∷ []) text column at in
          let more = arguments_read text line (column + 1) (sym (if_true (is_blank byte) _ _ blank) ∙ follows) left in
          record {
            tokens = more.tokens;
            is = tokens_first Blank (byte ∷ []) text (blank_begins byte text blank) line column at ∙ more.is;
            none = more.none;
            alone = more.later column (omega arith);
            stops = stops_at byte text (blank_unnamed byte blank);
          }
      | inr other ↦
          let parts = both (not (is_name_character byte)) _ (sym (if_false (is_blank byte) _ _ other) ∙ follows) in
          let stops : Stops (byte ∷ text) = stops_at byte text (not_so (is_name_character byte) parts.0) in
          elim (either (byte == 0o73) _ parts.1) [
            | inl comment ↦
                let e : byte ≡ 0o73 = eqb-true byte 0o73 comment in
                record {
                  tokens = [];
                  is = comment_left line text column (at ∙ ap (λ b. b ∷ text) e);
                  none = tt;
                  alone = tt;
                  stops = stops;
                }
            | inr leaves ↦
                followed line column (column + (first_piece (byte ∷ text)).length) (byte ∷ text) (first_piece (byte ∷ text)).form
                (further line column (byte ∷ text)) stops leaves (pieces_here line column byte text at)
          ]
    ]

-- ---- words

-- the first token at a column begins a list of words
record FirstWord (line : Bytes) (column : ℕ) : Type 0 where
  first : Lexeme
  more : List Lexeme
  is : tokens_from line column ≡ first ∷ more
  starts : first.start ≡ column
  unnamed : first.sort ≡ Name → ⊥
  unnumbered : first.sort ≡ LocalSymbol → ⊥

word_opened : (line : Bytes) (column end : ℕ) (form : Form) (more : List Lexeme) → opens_words form ≡ true
    → tokens_from line column ≡ lexemes_at line column end form ++ more → FirstWord line column
word_opened line column end (Cut sort) more opens is = record {
  first = lexeme_at line sort column end;
  more = more;
  is = is;
  starts = refl;
  unnamed = λ e. let bad : false ≡ true = ap (λ s. opens_words (Cut s)) (sym e) ∙ opens in cc;
  unnumbered = λ e. let bad : false ≡ true = ap (λ s. opens_words (Cut s)) (sym e) ∙ opens in cc;
}
word_opened line column end Blank more opens is = absurd (cc)
word_opened line column end Comment more opens is = absurd (cc)
word_opened line column end Skipped more opens is = absurd (cc)

no_label_here : (name token : Lexeme) (kind : LabelKind) → (name.sort ≡ Name → ⊥) → (name.sort ≡ LocalSymbol → ⊥)
    → IsLabel name token kind → ⊥
no_label_here name token _ unnamed unnumbered (NamedLabel has_two direct named colon) = unnamed named.sort
no_label_here name token _ unnamed unnumbered (LocalLabel has_two direct local colon) = unnumbered local

word_unlabelled : (first : Lexeme) (more : List Lexeme) → (first.sort ≡ Name → ⊥) → (first.sort ≡ LocalSymbol → ⊥)
    → BeginUnlabelled (first ∷ more)
word_unlabelled first [] unnamed unnumbered = tt
word_unlabelled first (token ∷ more) unnamed unnumbered = λ kind is. no_label_here first token kind unnamed unnumbered is

-- ---- statements

body_read : (body : BodyTree) (text line : Bytes) (column : ℕ) → IsWrittenBody body text → drop column line ≡ text
    → BodyRead line column body
body_read _ _ line column WrittenNothing at =
    body_as line column Nothing [] bodies.Nothing (none_left line column at) tt SaysNothing refl
body_read _ _ line column (WrittenComment text) at =
    body_as line column Nothing [] bodies.Nothing (comment_left line text column at) tt SaysNothing refl
body_read _ _ line column (WrittenAssignment name blanks is_global value named blank alone) at =
    let text = target_text line column name blanks is_global value named.named blank alone at in
    let target_ = target line column name blanks is_global value named.named blank alone at in
    let sign_ = sign line column name blanks is_global value named.named blank alone at in
    let left = value_left line column name blanks is_global value named.named blank alone at in
    body_as line column (Assignment name is_global value) (target_ ∷ (sign_ ∷ tokens_from line sign_.end))
    (bodies.Assign (record { name = record { start = column; end = target_.end }; is_global = is_global; value = sign_.end }))
    (assigning line column name blanks is_global value named.named blank alone at)
    (equals_unlabelled target_ sign_ is_global refl)
    (SaysAssignment target_ sign_ (tokens_from line sign_.end) is_global
    (record { sort = refl; text = ap is_counter text ∙ named.other })
    (is_behind line column name blanks is_global value named.named blank alone at) refl)
    (ap (λ t. Assignment t is_global (drop sign_.end line)) text ∙ ap (Assignment name is_global) left)
body_read _ _ line column (WrittenCounter blanks value blank alone) at =
    let point : Bytes = 0o56 ∷ [] in
    let text = target_text line column point blanks false value refl blank alone at in
    let target_ = target line column point blanks false value refl blank alone at in
    let sign_ = sign line column point blanks false value refl blank alone at in
    let left = value_left line column point blanks false value refl blank alone at in
    body_as line column (Counter value) (target_ ∷ (sign_ ∷ tokens_from line sign_.end)) (bodies.SetCounter sign_.end)
    (assigning line column point blanks false value refl blank alone at)
    (equals_unlabelled target_ sign_ false refl)
    (SaysCounter target_ sign_ (tokens_from line sign_.end) (record { sort = refl; text = ap is_counter text })
    (is_behind line column point blanks false value refl blank alone at) refl)
    (ap Counter left)
body_read _ _ line column (WrittenOperator name arguments named follows) at =
    let end : ℕ = column + length name in
    let left : drop end line ≡ arguments = past line name arguments column at in
    let after = operator_followed arguments line end follows left in
    let begins = name_begins name arguments named.named after.stops in
    let text = between line name arguments column at begins.some in
    let first : Lexeme = lexeme_at line Name column end in
    body_as line column (Operator name arguments) (first ∷ after.tokens) (bodies.Operate (record { start = column; end = end }))
    (tokens_first (Cut Name) name arguments begins line column at ∙ ap (λ ts. first ∷ ts) after.is)
    (unlabelled_by first after.tokens after.alone)
    (SaysOperator first after.tokens (record { sort = refl; text = ap is_counter text ∙ named.other })
    (unassigned line first after.tokens after.none))
    (ap (λ t. Operator t (drop end line)) text ∙ ap (Operator name) left)
body_read _ _ line column (WrittenWords [] some opens) at = absurd (omega arith)
body_read _ _ line column (WrittenWords (byte ∷ text) some opens) at =
    let word = word_opened line column (column + (first_piece (byte ∷ text)).length) (first_piece (byte ∷ text)).form
    (further line column (byte ∷ text)) opens (pieces_here line column byte text at) in
    body_as line column (Words (byte ∷ text)) (word.first ∷ word.more) (bodies.Words word.first.start) word.is
    (word_unlabelled word.first word.more word.unnamed word.unnumbered) (SaysWords word.first word.more word.unnamed)
    (ap (λ c. Words (drop c line)) word.starts ∙ ap Words at)

-- a statement is read at the column where it is written
record StatementRead (line : Bytes) (column : ℕ) (statement : StatementTree) : Type 0 where
  labels : List Label
  labelled : AreLabelled (tokens_from line column) labels
  trees : map (label_tree line) labels ≡ statement.labels
  read : Body
  says : Says line (tokens_from line (end_of column labels)) read
  tree : body_tree line read ≡ statement.body

statement_read : (statement : StatementTree) (text line : Bytes) (column : ℕ) → IsWritten statement text → drop column line ≡ text
    → StatementRead line column statement
statement_read _ _ line column (WithBody blanks text body blank written) at =
    let on : ℕ = column + length blanks in
    let same : tokens_from line column ≡ tokens_from line on = tokens_past_blanks blanks text line column blank at in
    let body_ = body_read body text line on written (past line blanks text column at) in
    let P : List Lexeme → Type 0 = λ ts. BeginUnlabelled ts in
    let Q : List Lexeme → Type 0 = λ ts. Says line ts body_.read in
    record {
      labels = [];
      labelled = Unlabelled (tokens_from line column) (subst P (sym same) body_.unlabelled);
      trees = refl;
      read = body_.read;
      says = subst Q (sym same) body_.says;
      tree = body_.tree;
    }
statement_read _ _ line column (WithLabel blanks written rest label statement blank is alone more) at =
    let on : ℕ = column + length blanks in
    let same : tokens_from line column ≡ tokens_from line on = tokens_past_blanks blanks (written ++ rest) line column blank at in
    let one = label_read label written rest line on is alone (past line blanks (written ++ rest) column at) in
    let others = statement_read statement rest line one.colon.end more one.left in
    let labels : List Label = label_with one.name one.colon one.kind ∷ others.labels in
    let P : List Lexeme → Type 0 = λ ts. AreLabelled ts labels in
    record {
      labels = labels;
      labelled = subst P (sym (same ∙ one.tokens))
          (Labelled one.name one.colon (tokens_from line one.colon.end) one.kind others.labels one.is others.labelled);
      trees = ap (λ t. t ∷ map (label_tree line) others.labels) one.tree ∙ ap (λ ts. label ∷ ts) others.trees;
      read = others.read;
      says = others.says;
      tree = others.tree;
    }

pub statements-written : (statement : StatementTree) (line : Bytes) → IsWritten statement line → tree_of line ≡ statement
statements-written statement line written =
    let read = statement_read statement line line 0 written refl in
    let labels_are : labels_at line ≡ read.labels = labels-written line read.labels read.labelled in
    let P : ℕ → Type 0 = λ column. Says line (tokens_from line column) read.read in
    let body_is : body_of line ≡ read.read =
    bodies-written line read.read (subst P (sym (ap (end_of 0) labels_are)) read.says) in
    let labels : map (label_tree line) (labels_at line) ≡ statement.labels =
    ap (map (label_tree line)) labels_are ∙ read.trees in
    let body : body_tree line (body_of line) ≡ statement.body = ap (body_tree line) body_is ∙ read.tree in
    ap (λ ls. record { labels = ls; body = body_tree line (body_of line) }) labels
    ∙ ap (λ b. record { labels = statement.labels; body = b }) body

-- ---- the example

example_label : IsWrittenLabel (record { text = codes "L"; kind = Global }) (codes "L::")
example_label = WrittenName (codes "L") true (record { named = refl; other = refl })

example_operator : IsWrittenBody (Operator (codes "MOV") (codes " (R1)+,@-(R2) ;X")) (codes "MOV (R1)+,@-(R2) ;X")
unfolding first_piece
example_operator = WrittenOperator (codes "MOV") (codes " (R1)+,@-(R2) ;X") (record { named = refl; other = refl }) refl

pub example-written : IsWritten example_tree (codes "L:: MOV (R1)+,@-(R2) ;X")
example-written =
    let body = WithBody (codes " ") (codes "MOV (R1)+,@-(R2) ;X") (Operator (codes "MOV") (codes " (R1)+,@-(R2) ;X")) (refl, tt)
    example_operator in
    WithLabel [] (codes "L::") (codes " MOV (R1)+,@-(R2) ;X") (record { text = codes "L"; kind = Global }) _ tt example_label refl
    body

-- Lines without NULs, line feeds, form feeds and CRs: how they are cut, and their characters.
use Rattle.std.proofs.Common.{◌≡◌, ℕ, ◌<◌, ◌≤◌, Bool, true, false, List, [], ◌∷◌, ◌++◌, length, map, take, Option, Some, refl, ap, ◌∙◌}
use Rattle.std.specs.Prelude.{◌==◌, ◌||◌, not}
use Rattle.std.proofs.lemmas.Bool.{le-ltb, lt-ltb}
use Rattle.std.proofs.lemmas.List.{append-nil, map-append, take_all}
use Rattle.m11_scan.specs.Laws.{ArePlainTexts, IsPlainText, with_line_feed, written}
use Rattle.m11_scan.specs.Line.{line_limit, line_of}
use Rattle.m11_scan.specs.Lines.{HasNoLineFeed, RawLine, cleaned, cut, line_text, without_return}
use Rattle.m11_scan.specs.Classes.{is_plain}
use Rattle.m11_scan.proofs.Cuts.{bytes_of, cut_joined, cut_line_feed, cut_open, raw}

-- ---- a byte that a line contains unchanged

record Keeps (byte : ℕ) : Type 0 where
  no_nul : (byte == 0) ≡ false
  no_line_feed : (byte == 10) ≡ false
  no_form_feed : (byte == 12) ≡ false
  no_return : (byte == 13) ≡ false

keeps : (byte : ℕ) → is_plain byte ≡ true → Keeps byte
keeps byte plain = go (byte == 0) (byte == 10) (byte == 12) (byte == 13) refl refl refl refl plain where
  go : (a b c d : Bool) → (byte == 0) ≡ a → (byte == 10) ≡ b → (byte == 12) ≡ c → (byte == 13) ≡ d
      → not (a || b || c || d) ≡ true → Keeps byte
  go true b c d e f g h plain = absurd (let bad = plain in cc)
  go false true c d e f g h plain = absurd (let bad = plain in cc)
  go false false true d e f g h plain = absurd (let bad = plain in cc)
  go false false false true e f g h plain = absurd (let bad = plain in cc)
  go false false false false e f g h plain = record { no_nul = e; no_line_feed = f; no_form_feed = g; no_return = h }

-- ---- a text of such bytes

pub has_no_line_feed : (text : List ℕ) → IsPlainText text → HasNoLineFeed text
has_no_line_feed [] plain = tt
has_no_line_feed (byte ∷ text) plain = ((keeps byte plain.0).no_line_feed, has_no_line_feed text plain.1)

pub cleaned_plain : (text : List ℕ) → IsPlainText text → cleaned text ≡ text
cleaned_plain [] plain = refl
cleaned_plain (byte ∷ text) plain =
    let k = keeps byte plain.0 in
    rw (k.no_nul, k.no_form_feed) (ap (λ (t : List ℕ). byte ∷ t) (cleaned_plain text plain.1))

no_return_last : (text : List ℕ) → IsPlainText text → without_return text ≡ text
no_return_last [] plain = refl
no_return_last (byte ∷ []) plain = let k = keeps byte plain.0 in rw k.no_return refl
no_return_last (byte ∷ next ∷ text) plain = ap (λ (t : List ℕ). byte ∷ t) (no_return_last (next ∷ text) plain.1)

pub plain_text : (line : List ℕ) (has_line_feed : Bool) → IsPlainText line → line_text (raw line has_line_feed) ≡ line
plain_text line true plain = ap without_return (cleaned_plain line plain) ∙ no_return_last line plain
plain_text line false plain = cleaned_plain line plain

-- ---- such lines, one after another

split : (line more : List ℕ) (rest : List (Option ℕ))
    → bytes_of (line ++ 10 ∷ more) ++ rest ≡ (bytes_of line ++ Some 10 ∷ []) ++ (bytes_of more ++ rest)
split [] more rest = refl
split (byte ∷ line) more rest = ap (λ (t : List (Option ℕ)). Some byte ∷ t) (split line more rest)

pub cut_written : (lines : List (List ℕ)) (rest : List (Option ℕ)) (more : List RawLine) (unclosed : List ℕ)
    → ArePlainTexts lines → cut rest ≡ record { lines = more; unclosed = unclosed }
    → cut (bytes_of (written lines) ++ rest) ≡ record { lines = map with_line_feed lines ++ more; unclosed = unclosed }
cut_written [] rest more unclosed plain is = is
cut_written (line ∷ lines) rest more unclosed plain is =
    ap cut (split line (written lines) rest)
    ∙ cut_joined (bytes_of line ++ Some 10 ∷ []) (bytes_of (written lines) ++ rest) (raw line true ∷ [])
    (map with_line_feed lines ++ more) unclosed (cut_line_feed line (has_no_line_feed line plain.0))
    (cut_written lines rest more unclosed plain.1 is)

pub cut_plain : (lines : List (List ℕ)) (last : List ℕ) → ArePlainTexts lines → IsPlainText last
    → cut (map (λ byte. Some byte) (written lines ++ last)) ≡ record { lines = map with_line_feed lines; unclosed = last }
cut_plain lines last plain last_plain =
    ap cut (map-append (λ (byte : ℕ). Some byte) (written lines) last)
    ∙ cut_written lines (bytes_of last) [] last plain (cut_open last (has_no_line_feed last last_plain))
    ∙ ap (λ (l : List RawLine). record { lines = l; unclosed = last }) (append-nil (map with_line_feed lines))

-- ---- the characters of a line

pub kept_whole : (line : List ℕ) → length line ≤ line_limit → line_of line ≡ record { text = line; is_over_long = false }
kept_whole line short = rw (take_all 132 line short, le-ltb 132 (length line) short) refl

pub kept_in_part : (line : List ℕ) → line_limit < length line
    → line_of line ≡ record { text = take line_limit line; is_over_long = true }
kept_in_part line long = rw (lt-ltb 132 (length line) long) refl

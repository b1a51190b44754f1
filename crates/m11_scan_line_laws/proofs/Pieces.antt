-- The pieces of an input with a known beginning.
use Rattle.std.proofs.Common.{◌≡◌, ℕ, ◌+◌, Bool, true, false, cond, List, [], ◌∷◌, ◌++◌, length, map, Option, Some, None, refl, ap, ◌∙◌, arith, inl, inr}
use Rattle.std.specs.Prelude.{◌==◌, filter}
use Rattle.std.proofs.lemmas.List.{map-append}
use Rattle.std.proofs.lemmas.List.Elements.{filter-append}
use Rattle.std.proofs.lemmas.List.Sums.{sum_by-append, length-filter}
use Rattle.m11_scan.specs.Line.{line_of}
use Rattle.m11_scan.specs.Lines.{RawLine, Cut, cut, closed_by, in_front, is_line, line_text, size_of, bytes_in, lines_in}
use Rattle.m11_scan.proofs.Cuts.{either, raw}
use Rattle.m11_scan_line_laws.specs.Readings.{lines_of}

-- ---- bytes before a cut

abbrev pub following : List ℕ → Cut → Cut
following [] c = c
following (byte ∷ bytes) c = in_front byte (following bytes c).lines (following bytes c).unclosed

-- two cuts joined: the unclosed bytes of the first continue with the bytes of the second
abbrev pub joined : Cut → Cut → Cut
joined c d = record {
  lines = c.lines ++ (following c.unclosed d).lines;
  unclosed = (following c.unclosed d).unclosed;
}

in_front_joined : (byte : ℕ) (lines : List RawLine) (unclosed : List ℕ) (d : Cut)
    → in_front byte (lines ++ (following unclosed d).lines) (following unclosed d).unclosed
    ≡ joined (in_front byte lines unclosed) d
in_front_joined byte [] unclosed d = refl
in_front_joined byte (line ∷ lines) unclosed d = refl

pub cut_more : (front rest : List (Option ℕ)) → cut (front ++ rest) ≡ joined (cut front) (cut rest)
cut_more [] rest = refl
cut_more (None ∷ front) rest = ap (closed_by false) (cut_more front rest)
cut_more (Some byte ∷ front) rest = elim (either (byte == 10)) [
  | inl is ↦ rw is (ap (closed_by true) (cut_more front rest))
  | inr other ↦
      rw other (ap (λ (c : Cut). in_front byte c.lines c.unclosed) (cut_more front rest)
      ∙ in_front_joined byte (cut front).lines (cut front).unclosed (cut rest))
]

pub after_line : (bytes : List ℕ) (line : RawLine) (lines : List RawLine) (unclosed : List ℕ)
    → following bytes (record { lines = line ∷ lines; unclosed = unclosed })
    ≡ record { lines = raw (bytes ++ line.bytes) line.has_line_feed ∷ lines; unclosed = unclosed }
after_line [] line lines unclosed = refl
after_line (byte ∷ bytes) line lines unclosed =
    ap (λ (c : Cut). in_front byte c.lines c.unclosed) (after_line bytes line lines unclosed)

pub after_none : (bytes unclosed : List ℕ)
    → following bytes (record { lines = []; unclosed = unclosed }) ≡ record { lines = []; unclosed = bytes ++ unclosed }
after_none [] unclosed = refl
after_none (byte ∷ bytes) unclosed = ap (λ (c : Cut). in_front byte c.lines c.unclosed) (after_none bytes unclosed)

-- ---- sums over pieces, and the lines among them

pub bytes_in-append : (pieces more : List RawLine) → bytes_in (pieces ++ more) ≡ bytes_in pieces + bytes_in more
bytes_in-append pieces more = sum_by-append size_of pieces more

pub lines_in-append : (pieces more : List RawLine) → lines_in (pieces ++ more) ≡ lines_in pieces + lines_in more
lines_in-append pieces more = sum_by-append (λ line. cond (is_line line) 1 0) pieces more

pub bytes_in-first : (piece : RawLine) (pieces : List RawLine) → bytes_in (piece ∷ pieces) ≡ size_of piece + bytes_in pieces
bytes_in-first piece pieces = omega (arith, bytes_in-append (piece ∷ []) pieces)

pub lines_in-first : (piece : RawLine) (pieces : List RawLine)
    → lines_in (piece ∷ pieces) ≡ cond (is_line piece) 1 0 + lines_in pieces
lines_in-first piece pieces = omega (arith, lines_in-append (piece ∷ []) pieces)

pub bytes_in-push : (pieces : List RawLine) (piece : RawLine)
    → bytes_in (pieces ++ piece ∷ []) ≡ bytes_in pieces + size_of piece
bytes_in-push pieces piece = omega (arith, bytes_in-append pieces (piece ∷ []))

pub lines_in-push : (pieces : List RawLine) (piece : RawLine)
    → lines_in (pieces ++ piece ∷ []) ≡ lines_in pieces + cond (is_line piece) 1 0
lines_in-push pieces piece = omega (arith, lines_in-append pieces (piece ∷ []))

pub lines_in-more : (pieces : List RawLine) (piece : RawLine) → is_line piece ≡ true
    → lines_in (pieces ++ piece ∷ []) ≡ lines_in pieces + 1
lines_in-more pieces piece is =
    lines_in-push pieces piece ∙ ap (λ (b : Bool). lines_in pieces + cond b 1 0) is

pub lines_of-append : (pieces more : List RawLine) → lines_of (pieces ++ more) ≡ lines_of pieces ++ lines_of more
lines_of-append pieces more = ap (map (λ line. line_of (line_text line))) (filter-append is_line pieces more)
    ∙ map-append (λ line. line_of (line_text line)) (filter is_line pieces) (filter is_line more)

none_left : (pieces : List RawLine) → length pieces ≡ 0 → pieces ≡ []
none_left [] e = refl
none_left (piece ∷ pieces) e = absurd (omega arith)

pub no_lines : (pieces : List RawLine) → lines_in pieces ≡ 0 → lines_of pieces ≡ []
no_lines pieces e = ap (map (λ line. line_of (line_text line)))
    (none_left (filter is_line pieces) (length-filter is_line pieces ∙ e))

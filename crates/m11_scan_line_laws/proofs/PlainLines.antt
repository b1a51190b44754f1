-- The reading of sources made of lines.
use Rattle.std.proofs.Common.{◌≡◌, ◌≢◌, ℕ, ◌≤◌, true, false, List, [], ◌∷◌, ◌++◌, length, map, sum_by, Option, Some, None, refl, sym, ap, ◌∙◌, subst, append_assoc, arith}
use Rattle.std.proofs.lemmas.List.{append-nil, length-append, map-append}
use Rattle.std.proofs.lemmas.List.Sums.{sum_by-append}
use Rattle.m11_scan.specs.Laws.{ArePlainTexts, IsPlainText, with_line_feed, written}
use Rattle.m11_scan.specs.Line.{SourceLine, line_of}
use Rattle.m11_scan.specs.Lines.{RawLine, bytes_in, cut, input_of, is_line, lines_in, most_bytes, most_lines}
use Rattle.m11_scan.proofs.Cuts.{bytes_of, cut_end, cut_joined, raw}
use Rattle.m11_scan.proofs.PlainTexts.{cleaned_plain, cut_written, has_no_line_feed, plain_text}
use Rattle.m11_scan_line_laws.specs.Laws.{AllEnded, HasLines, HaveLines, LastOpen, NoSource, OneMore}
use Rattle.m11_scan_line_laws.specs.Readings.{lines_of, reading_from, reading_of}
use Rattle.m11_scan_line_laws.proofs.Limits.{empty_within}
use Rattle.m11_scan_line_laws.proofs.Passing.{passed}
use Rattle.m11_scan_line_laws.proofs.Pieces.{bytes_in-append, bytes_in-first, lines_in-append, lines_in-first, lines_of-append}

-- ---- lines with a line feed after each

ended_bytes : (lines : List (List ℕ)) → bytes_in (map with_line_feed lines) ≡ length (written lines)
ended_bytes [] = refl
ended_bytes (line ∷ lines) =
    omega (
      arith,
      bytes_in-first (raw line true) (map with_line_feed lines),
      ended_bytes lines,
      length-append line (10 ∷ written lines),
    )

ended_count : (lines : List (List ℕ)) → lines_in (map with_line_feed lines) ≡ length lines
ended_count [] = refl
ended_count (line ∷ lines) = omega (arith, lines_in-first (raw line true) (map with_line_feed lines), ended_count lines)

ended_lines : (lines : List (List ℕ)) → ArePlainTexts lines → lines_of (map with_line_feed lines) ≡ map line_of lines
ended_lines [] plain = refl
ended_lines (line ∷ lines) plain =
    ap (λ (t : List ℕ). line_of t ∷ lines_of (map with_line_feed lines)) (plain_text line true plain.0)
    ∙ ap (λ (l : List SourceLine). line_of line ∷ l) (ended_lines lines plain.1)

-- ---- sources, from the pieces that they are cut into

record ReadsAs (bytes count : ℕ) (lines : List SourceLine) (input : List (Option ℕ)) : Type 0 where
  pieces : List RawLine
  is_cut : cut input ≡ record { lines = pieces; unclosed = [] }
  bytes_are : bytes_in pieces ≡ bytes
  count_is : lines_in pieces ≡ count
  lines_are : lines_of pieces ≡ lines

-- the bytes after the last line feed of a source are these lines: one, or none if there are no bytes
record EndsIn (last : List ℕ) (lines : List (List ℕ)) : Type 0 where
  count_is : lines_in (raw last false ∷ []) ≡ length lines
  lines_are : lines_of (raw last false ∷ []) ≡ map line_of lines

with_last : (lines more : List (List ℕ)) (last : List ℕ) → ArePlainTexts lines → IsPlainText last → EndsIn last more
    → ReadsAs (length (written lines ++ last)) (length (lines ++ more)) (map line_of (lines ++ more))
    (bytes_of (written lines ++ last) ++ None ∷ [])
with_last lines more last plain last_plain ends =
    let ended = map with_line_feed lines in
    record {
      pieces = ended ++ raw last false ∷ [];
      is_cut = ap cut (ap (λ (t : List (Option ℕ)). t ++ None ∷ []) (map-append (λ (byte : ℕ). Some byte) (written lines) last)
          ∙ append_assoc (bytes_of (written lines)) (bytes_of last) (None ∷ []))
          ∙ cut_written lines (bytes_of last ++ None ∷ []) (raw last false ∷ []) [] plain
          (cut_end last (has_no_line_feed last last_plain));
      bytes_are = omega (
        arith,
        bytes_in-append ended (raw last false ∷ []),
        ended_bytes lines,
        bytes_in-first (raw last false) [],
        length-append (written lines) last,
      );
      count_is = omega (
        arith,
        lines_in-append ended (raw last false ∷ []),
        ended_count lines,
        ends.count_is,
        length-append lines more,
      );
      lines_are = lines_of-append ended (raw last false ∷ [])
          ∙ ap (λ (l : List SourceLine). l ++ lines_of (raw last false ∷ [])) (ended_lines lines plain)
          ∙ ap (λ (l : List SourceLine). map line_of lines ++ l) ends.lines_are
          ∙ sym (map-append line_of lines more);
    }

no_last : EndsIn [] []
no_last = record { count_is = refl; lines_are = refl }

last_line : (last : List ℕ) → IsPlainText last → last ≢ [] → EndsIn last (last ∷ [])
last_line [] plain some = absurd (some refl)
last_line (byte ∷ bytes) plain some =
    let whole = cleaned_plain (byte ∷ bytes) plain in
    let is : is_line (raw (byte ∷ bytes) false) ≡ true = rw whole refl in
    record {
      count_is = rw is refl;
      lines_are = rw is (ap (λ (t : List ℕ). line_of t ∷ []) whole);
    }

one_source : (source : List ℕ) (lines : List (List ℕ)) → HasLines source lines
    → ReadsAs (length source) (length lines) (map line_of lines) (bytes_of source ++ None ∷ [])
one_source source lines (AllEnded ended plain) =
    let P : List ℕ → List (List ℕ) → Type 0 = λ s l. ReadsAs (length s) (length l) (map line_of l) (bytes_of s ++ None ∷ []) in
    let whole : P (written ended ++ []) (ended ++ []) = with_last ended [] [] plain tt no_last in
    subst (λ (s : List ℕ). P s ended) (append-nil (written ended))
    (subst (λ (l : List (List ℕ)). P (written ended ++ []) l) (append-nil ended) whole)
one_source source lines (LastOpen ended last plain last_plain some) =
    with_last ended (last ∷ []) last plain last_plain (last_line last last_plain some)

all_sources : (sources lines : List (List ℕ)) → HaveLines sources lines
    → ReadsAs (sum_by length sources) (length lines) (map line_of lines) (input_of sources)
all_sources sources lines NoSource =
    record { pieces = []; is_cut = refl; bytes_are = refl; count_is = refl; lines_are = refl }
all_sources sources lines (OneMore source others first more one rest) =
    let a = one_source source first one in
    let b = all_sources others more rest in
    record {
      pieces = a.pieces ++ b.pieces;
      is_cut = cut_joined (bytes_of source ++ None ∷ []) (input_of others) a.pieces b.pieces [] a.is_cut b.is_cut;
      bytes_are = omega (arith, bytes_in-append a.pieces b.pieces, a.bytes_are, b.bytes_are, sum_by-append length (source ∷ []) others);
      count_is = omega (arith, lines_in-append a.pieces b.pieces, a.count_is, b.count_is, length-append first more);
      lines_are = lines_of-append a.pieces b.pieces
          ∙ ap (λ (l : List SourceLine). l ++ lines_of b.pieces) a.lines_are
          ∙ ap (λ (l : List SourceLine). map line_of first ++ l) b.lines_are
          ∙ sym (map-append line_of first more);
    }

pub plain_reading : (sources lines : List (List ℕ)) → HaveLines sources lines → sum_by length sources ≤ most_bytes
    → length lines ≤ most_lines → reading_of sources ≡ record { lines = map line_of lines; fault = None }
plain_reading sources lines have bytes count =
    let r = all_sources sources lines have in
    ap (λ c. reading_from [] c.lines c.unclosed) r.is_cut
    ∙ ap (λ (p : List RawLine). reading_from [] p []) (sym (append-nil r.pieces))
    ∙ passed [] r.pieces [] [] (omega (arith, r.bytes_are)) (omega (arith, r.count_is))
    ∙ ap (λ f. record { lines = lines_of r.pieces; fault = f }) (empty_within r.pieces (omega (arith, r.bytes_are)))
    ∙ ap (λ (l : List SourceLine). record { lines = l; fault = None }) r.lines_are

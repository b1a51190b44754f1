-- The bytes read from feeds with known texts are the known sources, or a beginning of them.
use Rattle.std.proofs.Common.{◌≡◌, ◌∙◌, ℕ, List, [], ◌∷◌, ◌++◌, append_assoc, append-nil, Option, Some, None, refl, sym, ap, ap₂}
use Rattle.std.proofs.lemmas.List.{map-append}
use Rattle.m11_base.specs.Devices.{Bytes}
use Rattle.m11_base.specs.Feed.{BeginsWith, GiveAll, HasBytes, OneFailed, Text}
use Rattle.m11_scan.specs.Line.{SourceLine}
use Rattle.m11_scan.specs.Lines.{Cut, RawLine, cut, input_of}
use Rattle.m11_scan.specs.declared.fault.LineFault.{LineFault}
use Rattle.m11_scan.proofs.Cuts.{bytes_of}
use Rattle.m11_scan_line_laws.specs.Calls.{FailReading, HaveReading}
use Rattle.m11_scan_line_laws.specs.Readings.{Reading, fault_at, lines_of, reading_from, reading_of, reading_of_input, unless_fault}
use Rattle.m11_scan_line_laws.proofs.Passing.{extends}
use Rattle.m11_scan_line_laws.proofs.Pieces.{cut_more, following}
use Rattle.m11_base_writes.specs.Passes.{AreKnown, IsKnown}

-- ---- the lines of a beginning of an input are the first lines of the whole

abbrev GoesOn : List SourceLine → List SourceLine → Type 0
GoesOn all some = (more : List SourceLine) × (all ≡ some ++ more)

unless_goes_on : (f : Option LineFault) (before : List RawLine) (rest whole : Reading) → GoesOn whole.lines rest.lines
    → GoesOn (unless_fault f before whole).lines (unless_fault f before rest).lines
unless_goes_on None before rest whole h = h
unless_goes_on (Some fault) before rest whole h = ([], sym (append-nil (lines_of before)))

pieces_go_on : (before pieces others : List RawLine) (unclosed left : Bytes)
    → GoesOn (reading_from before (pieces ++ others) left).lines (reading_from before pieces unclosed).lines
pieces_go_on before [] others unclosed left = extends before others left
pieces_go_on before (piece ∷ pieces) others unclosed left =
    unless_goes_on (fault_at before piece) before (reading_from (before ++ piece ∷ []) pieces unclosed)
    (reading_from (before ++ piece ∷ []) (pieces ++ others) left)
    (pieces_go_on (before ++ piece ∷ []) pieces others unclosed left)

input_goes_on : (front rest : List (Option ℕ))
    → GoesOn (reading_of_input (front ++ rest)).lines (reading_of_input front).lines
input_goes_on front rest =
    let last = following (cut front).unclosed (cut rest) in
    let on = pieces_go_on [] (cut front).lines last.lines (cut front).unclosed last.unclosed in
    (on.0, ap (λ (c : Cut). (reading_from [] c.lines c.unclosed).lines) (cut_more front rest) ∙ on.1)

-- ---- a feed that failed yielded a beginning of its text

begun_bytes : (text : Option Text) (source beginning : Bytes) → IsKnown text source → BeginsWith text beginning
    → (left : Bytes) × (source ≡ beginning ++ left)
begun_bytes None source beginning k h = absurd k
begun_bytes (Some text) source beginning k h = (h.0, sym k ∙ h.1)

known_bytes : (text : Option Text) (source other : Bytes) → IsKnown text source → HasBytes text other → other ≡ source
known_bytes None source other k h = absurd k
known_bytes (Some text) source other k h = sym h ∙ k

abbrev Follows : List (Option ℕ) → List (Option ℕ) → Type 0
Follows whole front = (rest : List (Option ℕ)) × (whole ≡ front ++ rest)

in_one : (source beginning left : Bytes) (sources : List Bytes) → source ≡ beginning ++ left
    → Follows (input_of (source ∷ sources)) (bytes_of beginning)
in_one source beginning left sources e = (
  (bytes_of left ++ None ∷ []) ++ input_of sources,
  ap (λ (bytes : Bytes). (bytes_of bytes ++ None ∷ []) ++ input_of sources) e
      ∙ ap (λ (t : List (Option ℕ)). (t ++ None ∷ []) ++ input_of sources) (map-append (λ byte. Some byte) beginning left)
      ∙ ap (λ (t : List (Option ℕ)). t ++ input_of sources) (append_assoc (bytes_of beginning) (bytes_of left) (None ∷ []))
      ∙ append_assoc (bytes_of beginning) (bytes_of left ++ None ∷ []) (input_of sources),
)

in_later : (source first : Bytes) (sources front : List Bytes) (beginning : Bytes) → first ≡ source
    → Follows (input_of sources) (input_of front ++ bytes_of beginning)
    → Follows (input_of (source ∷ sources)) (input_of (first ∷ front) ++ bytes_of beginning)
in_later source first sources front beginning e on =
    let own : List (Option ℕ) = bytes_of first ++ None ∷ [] in (
      on.0,
      ap (λ (bytes : Bytes). (bytes_of bytes ++ None ∷ []) ++ input_of sources) (sym e)
          ∙ ap (λ (t : List (Option ℕ)). own ++ t) on.1
          ∙ sym (append_assoc own (input_of front ++ bytes_of beginning) on.0)
          ∙ ap (λ (t : List (Option ℕ)). t ++ on.0) (sym (append_assoc own (input_of front) (bytes_of beginning))),
    )

module _ {F : Type 0} (text : F → Option Text) (faults : F → ℕ) where
  failed_input : (feeds feeds' : List F) (sources front : List Bytes) (beginning : Bytes) → AreKnown text feeds sources
      → OneFailed text faults feeds feeds' front beginning
      → Follows (input_of sources) (input_of front ++ bytes_of beginning)
  failed_input [] feeds' sources front beginning k h = absurd h
  failed_input (old ∷ olds) [] sources front beginning k h = absurd h
  failed_input (old ∷ olds) (new ∷ news) [] front beginning k h = absurd k
  failed_input (old ∷ olds) (new ∷ news) (source ∷ sources) [] beginning k h =
      let b = begun_bytes (text old) source beginning k.0 h.0 in in_one source beginning b.0 sources b.1
  failed_input (old ∷ olds) (new ∷ news) (source ∷ sources) (first ∷ front) beginning k h =
      in_later source first sources front beginning (known_bytes (text old) source first k.0 h.0)
      (failed_input olds news sources front beginning k.1 h.2)

  -- the lines before the failure are the first lines of the sources
  pub fail_begins : (feeds feeds' : List F) (sources : List Bytes) (reading : Reading) → AreKnown text feeds sources
      → FailReading text faults feeds feeds' reading → GoesOn (reading_of sources).lines reading.lines
  fail_begins feeds feeds' sources reading k (front, beginning, failed, is) =
      let on = failed_input feeds feeds' sources front beginning k failed in
      let lines = input_goes_on (input_of front ++ bytes_of beginning) on.0 in (
        lines.0,
        ap (λ (input : List (Option ℕ)). (reading_of_input input).lines) on.1 ∙ lines.1
            ∙ ap (λ (r : Reading). r.lines ++ lines.0) is,
      )

  -- ---- if no feed failed, the feeds yielded the sources

  known_sources : (feeds : List F) (sources others : List Bytes) → AreKnown text feeds sources → GiveAll text feeds others
      → others ≡ sources
  known_sources [] [] [] k h = refl
  known_sources [] [] (other ∷ others) k h = absurd h
  known_sources [] (source ∷ sources) others k h = absurd k
  known_sources (feed ∷ feeds) [] others k h = absurd k
  known_sources (feed ∷ feeds) (source ∷ sources) [] k h = absurd h
  known_sources (feed ∷ feeds) (source ∷ sources) (other ∷ others) k h =
      ap₂ (λ (x : Bytes) (xs : List Bytes). x ∷ xs) (known_bytes (text feed) source other k.0 h.0)
      (known_sources feeds sources others k.1 h.1)

  pub same_reading : (feeds feeds' : List F) (sources : List Bytes) (reading : Reading) → AreKnown text feeds sources
      → HaveReading text faults feeds feeds' reading → reading ≡ reading_of sources
  same_reading feeds feeds' sources reading k (none, others, give, is) =
      sym is ∙ ap reading_of (known_sources feeds sources others k give)

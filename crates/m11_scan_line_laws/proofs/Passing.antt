-- The reading of pieces, one after another.
use Rattle.std.proofs.Common.{◌≡◌, ℕ, ◌+◌, ◌≤◌, Bool, true, false, List, [], ◌∷◌, ◌++◌, Option, Some, None, refl, sym, ap, ◌∙◌, arith, append_assoc, inl, inr}
use Rattle.std.specs.Prelude.{◌==◌, ◌&&◌, nat_lt, if◌then◌else◌}
use Rattle.std.proofs.lemmas.List.{append-nil, map-append}
use Rattle.m11_scan.specs.declared.fault.LineFault.{LineFault}
use Rattle.m11_scan.specs.declared.fault.LineFault.TheVariants.{TooMuchSource, TooManyLines}
use Rattle.m11_scan.specs.Line.{SourceLine}
use Rattle.m11_scan.specs.Lines.{RawLine, Cut, cut, input_of, in_front, is_line, size_of, bytes_in, lines_in, most_bytes, most_lines}
use Rattle.m11_scan.proofs.Cuts.{either, raw, bytes_of}
use Rattle.m11_scan_line_laws.specs.Readings.{Reading, lines_of, begins_at, fault_at, unless_fault, reading_from, reading_of, reading_of_input}
use Rattle.m11_scan_line_laws.proofs.Limits.{within, no_fault, empty_within}
use Rattle.m11_scan_line_laws.proofs.Pieces.{following, cut_more, after_line, after_none, bytes_in-first, lines_in-first, bytes_in-push, lines_in-push, lines_of-append}

-- ---- pieces that pass no limit

pub passed : (before pieces more : List RawLine) (unclosed : List ℕ) → bytes_in before + bytes_in pieces ≤ most_bytes
    → lines_in before + lines_in pieces ≤ most_lines
    → reading_from before (pieces ++ more) unclosed ≡ reading_from (before ++ pieces) more unclosed
passed before [] more unclosed bytes lines =
    ap (λ (b : List RawLine). reading_from b more unclosed) (sym (append-nil before))
passed before (piece ∷ pieces) more unclosed bytes lines =
    let bytes_all = bytes_in-first piece pieces in
    let lines_all = lines_in-first piece pieces in
    let none = within before piece (omega (arith, bytes_all, bytes)) (omega (arith, lines_all, lines)) in
    let bytes_now = bytes_in-push before piece in
    let lines_now = lines_in-push before piece in
    ap (λ f. unless_fault f before (reading_from (before ++ piece ∷ []) (pieces ++ more) unclosed)) none
    ∙ passed (before ++ piece ∷ []) pieces more unclosed (omega (arith, bytes_all, bytes_now, bytes))
    (omega (arith, lines_all, lines_now, lines))
    ∙ ap (λ (b : List RawLine). reading_from b more unclosed) (append_assoc before (piece ∷ []) pieces)

-- ---- the lines of a beginning

module _ (before : List RawLine) (rest : Reading) (piece : RawLine) where
  unless_extends : (f : Option LineFault)
      → (more : List SourceLine) × (rest.lines ≡ lines_of (before ++ piece ∷ []) ++ more)
      → (more : List SourceLine) × ((unless_fault f before rest).lines ≡ lines_of before ++ more)
  unless_extends None h = (
    lines_of (piece ∷ []) ++ h.0,
    h.1 ∙ ap (λ (t : List SourceLine). t ++ h.0) (lines_of-append before (piece ∷ []))
        ∙ append_assoc (lines_of before) (lines_of (piece ∷ [])) h.0,
  )
  unless_extends (Some fault) h = ([], sym (append-nil (lines_of before)))

pub extends : (before pieces : List RawLine) (unclosed : List ℕ)
    → (more : List SourceLine) × ((reading_from before pieces unclosed).lines ≡ lines_of before ++ more)
extends before [] unclosed = ([], sym (append-nil (lines_of before)))
extends before (piece ∷ pieces) unclosed = unless_extends before (reading_from (before ++ piece ∷ []) pieces unclosed) piece
    (fault_at before piece) (extends (before ++ piece ∷ []) pieces unclosed)

-- ---- the piece of one more byte

abbrev pub reading_after : List RawLine → Cut → Reading
reading_after before c = reading_from before c.lines c.unclosed

abbrev pub stopped : List RawLine → LineFault → Reading
stopped before fault = record { lines = lines_of before; fault = Some fault }

module _ (before : List RawLine) (fault : LineFault) where
  stops_in : (bytes : List ℕ) (line : RawLine) (lines : List RawLine) (unclosed : List ℕ)
      → fault_at before (raw (bytes ++ line.bytes) line.has_line_feed) ≡ Some fault
      → reading_after before (following bytes (record { lines = line ∷ lines; unclosed = unclosed }))
      ≡ stopped before fault
  stops_in bytes line lines unclosed e =
      ap (reading_after before) (after_line bytes line lines unclosed)
      ∙ ap (λ f. unless_fault f before
      (reading_from (before ++ raw (bytes ++ line.bytes) line.has_line_feed ∷ []) lines unclosed)) e

  module _ (unclosed : List ℕ) (byte : ℕ)
      (at_byte : (more : List ℕ) (has_line_feed : Bool)
      → fault_at before (raw (unclosed ++ byte ∷ more) has_line_feed) ≡ Some fault) where
    stops_at_byte : (lines : List RawLine) (more : List ℕ)
        → reading_after before (following unclosed (in_front byte lines more)) ≡ stopped before fault
    stops_at_byte [] more = ap (reading_after before) (after_none unclosed (byte ∷ more))
        ∙ ap (λ (f : Option LineFault). record { lines = lines_of before; fault = f }) (at_byte more false)
    stops_at_byte (line ∷ lines) more = stops_in unclosed (raw (byte ∷ line.bytes) line.has_line_feed) lines more
        (at_byte line.bytes line.has_line_feed)

    pub stops_at : (rest : List (Option ℕ)) → fault_at before (raw unclosed true) ≡ Some fault
        → reading_after before (following unclosed (cut (Some byte ∷ rest))) ≡ stopped before fault
    stops_at rest at_line_feed = elim (either (byte == 10)) [
      | inl is ↦
          let here : fault_at before (raw (unclosed ++ []) true) ≡ Some fault =
          ap (λ (t : List ℕ). fault_at before (raw t true)) (append-nil unclosed) ∙ at_line_feed in
          rw is (stops_in unclosed (raw [] true) (cut rest).lines (cut rest).unclosed here)
      | inr other ↦ rw other (stops_at_byte (cut rest).lines (cut rest).unclosed)
    ]

-- ---- an empty piece changes nothing

-- the fault of the limit that a piece passes first, if any, from the numbers of bytes and lines before it
abbrev fault_with : ℕ → ℕ → RawLine → Option LineFault
fault_with bytes lines piece =
    if is_line piece && nat_lt most_lines (lines + 1)
    then Some (if nat_lt most_bytes (bytes + begins_at piece.bytes) then TooMuchSource else TooManyLines)
    else (if nat_lt most_bytes (bytes + size_of piece) then Some TooMuchSource else None)

module _ (one other : List RawLine) (bytes : bytes_in one ≡ bytes_in other) (lines : lines_in one ≡ lines_in other)
    (are : lines_of one ≡ lines_of other) where
  same_fault : (piece : RawLine) → fault_at one piece ≡ fault_at other piece
  same_fault piece = ap (λ n. fault_with n (lines_in one) piece) bytes ∙ ap (λ n. fault_with (bytes_in other) n piece) lines

  same_unless : (f : Option LineFault) (rest rest' : Reading) → rest ≡ rest'
      → unless_fault f one rest ≡ unless_fault f other rest'
  same_unless None rest rest' e = e
  same_unless (Some fault) rest rest' e =
      ap (λ (l : List SourceLine). record { lines = l; fault = Some fault }) are

  bytes_more : (piece : RawLine) → bytes_in (one ++ piece ∷ []) ≡ bytes_in (other ++ piece ∷ [])
  bytes_more piece = omega (arith, bytes, bytes_in-push one piece, bytes_in-push other piece)

  lines_more : (piece : RawLine) → lines_in (one ++ piece ∷ []) ≡ lines_in (other ++ piece ∷ [])
  lines_more piece = omega (arith, lines, lines_in-push one piece, lines_in-push other piece)

  are_more : (piece : RawLine) → lines_of (one ++ piece ∷ []) ≡ lines_of (other ++ piece ∷ [])
  are_more piece = lines_of-append one (piece ∷ [])
      ∙ ap (λ (l : List SourceLine). l ++ lines_of (piece ∷ [])) are ∙ sym (lines_of-append other (piece ∷ []))

alike : (one other pieces : List RawLine) (unclosed : List ℕ) → bytes_in one ≡ bytes_in other
    → lines_in one ≡ lines_in other → lines_of one ≡ lines_of other
    → reading_from one pieces unclosed ≡ reading_from other pieces unclosed
alike one other [] unclosed bytes lines are =
    ap (λ (f : Option LineFault). record { lines = lines_of one; fault = f })
    (same_fault one other bytes lines are (raw unclosed false))
    ∙ ap (λ (l : List SourceLine). record { lines = l; fault = fault_at other (raw unclosed false) }) are
alike one other (piece ∷ pieces) unclosed bytes lines are =
    ap (λ f. unless_fault f one (reading_from (one ++ piece ∷ []) pieces unclosed))
    (same_fault one other bytes lines are piece)
    ∙ same_unless one other bytes lines are (fault_at other piece) (reading_from (one ++ piece ∷ []) pieces unclosed)
    (reading_from (other ++ piece ∷ []) pieces unclosed)
    (alike (one ++ piece ∷ []) (other ++ piece ∷ []) pieces unclosed (bytes_more one other bytes lines are piece)
    (lines_more one other bytes lines are piece) (are_more one other bytes lines are piece))

same_rest : (f : Option LineFault) (before : List RawLine) (rest rest' : Reading) → (f ≡ None → rest ≡ rest')
    → unless_fault f before rest ≡ unless_fault f before rest'
same_rest None before rest rest' h = h refl
same_rest (Some fault) before rest rest' h = refl

skips : (before pieces more : List RawLine) (unclosed : List ℕ) → bytes_in before ≤ most_bytes
    → reading_from before (pieces ++ raw [] false ∷ more) unclosed ≡ reading_from before (pieces ++ more) unclosed
skips before [] more unclosed h =
    let bytes_now = bytes_in-push before (raw [] false) in
    let lines_now = lines_in-push before (raw [] false) in
    ap (λ f. unless_fault f before (reading_from (before ++ raw [] false ∷ []) more unclosed)) (empty_within before h)
    ∙ alike (before ++ raw [] false ∷ []) before more unclosed (omega arith) (omega arith)
    (lines_of-append before (raw [] false ∷ []) ∙ append-nil (lines_of before))
skips before (piece ∷ pieces) more unclosed h =
    same_rest (fault_at before piece) before
    (reading_from (before ++ piece ∷ []) (pieces ++ raw [] false ∷ more) unclosed)
    (reading_from (before ++ piece ∷ []) (pieces ++ more) unclosed)
    (λ none. skips (before ++ piece ∷ []) pieces more unclosed
    (omega (arith, bytes_in-push before piece, no_fault before piece none)))

-- ---- a source that ends with a line feed

module _ (one other : List ℕ) (rest : List (Option ℕ)) where
  abbrev front : List (Option ℕ)
  front = bytes_of (one ++ 10 ∷ [])

  closed : (cut front).unclosed ≡ []
  closed = ap (λ (input : List (Option ℕ)). (cut input).unclosed) (map-append (λ byte. Some byte) one (10 ∷ []))
      ∙ ap (λ (c : Cut). c.unclosed) (cut_more (bytes_of one) (Some 10 ∷ []))
      ∙ ap (λ (c : Cut). c.unclosed) (after_line (cut (bytes_of one)).unclosed (raw [] true) [] [])

  after_front : (input : List (Option ℕ)) → reading_of_input (front ++ input)
      ≡ reading_from [] ((cut front).lines ++ (cut input).lines) (cut input).unclosed
  after_front input = ap (λ (c : Cut). reading_after [] c) (cut_more front input)
      ∙ ap (λ (u : List ℕ). reading_from [] ((cut front).lines ++ (following u (cut input)).lines)
      (following u (cut input)).unclosed) closed

  source_end_skipped : reading_of_input (front ++ None ∷ rest) ≡ reading_of_input (front ++ rest)
  source_end_skipped = after_front (None ∷ rest)
      ∙ skips [] (cut front).lines (cut rest).lines (cut rest).unclosed (omega arith) ∙ sym (after_front rest)

pub joined_alike : (one other : List ℕ) (sources : List (List ℕ))
    → reading_of ((one ++ 10 ∷ []) ∷ other ∷ sources) ≡ reading_of (((one ++ 10 ∷ []) ++ other) ∷ sources)
joined_alike one other sources =
    let first = bytes_of (one ++ 10 ∷ []) in
    let second = bytes_of other in
    let later = input_of sources in
    ap reading_of_input (append_assoc first (None ∷ []) ((second ++ None ∷ []) ++ later))
    ∙ source_end_skipped one other ((second ++ None ∷ []) ++ later)
    ∙ ap reading_of_input (sym (append_assoc first (second ++ None ∷ []) later))
    ∙ ap (λ (input : List (Option ℕ)). reading_of_input (input ++ later))
    (sym (append_assoc first second (None ∷ []))
    ∙ ap (λ (input : List (Option ℕ)). input ++ None ∷ []) (sym (map-append (λ byte. Some byte) (one ++ 10 ∷ []) other)))

-- The first limit that a piece passes.
use Rattle.std.proofs.Common.{◌≡◌, ℕ, ◌+◌, ◌<◌, ◌≤◌, Bool, true, false, cond, ltb, List, [], ◌∷◌, ◌++◌, length, Option, Some, None, refl, sym, ap, ◌∙◌, arith, inl, inr}
use Rattle.std.specs.Prelude.{◌==◌, ◌&&◌}
use Rattle.std.proofs.lemmas.Bool.{cases_lt, lt-ltb, le-ltb, ltb-true}
use Rattle.std.proofs.lemmas.List.{length-append, append-nil}
use Rattle.m11_scan.specs.declared.fault.LineFault.{LineFault}
use Rattle.m11_scan.specs.declared.fault.LineFault.TheVariants.{TooMuchSource, TooManyLines}
use Rattle.m11_scan.specs.Lines.{RawLine, as_read, cleaned, is_empty, is_line, size_of, bytes_in, lines_in, most_bytes, most_lines}
use Rattle.m11_scan.proofs.Cuts.{either, raw}
use Rattle.m11_scan.proofs.SourceSteps.{cleaned-append}
use Rattle.m11_scan_line_laws.specs.Readings.{begins_at, fault_at}

-- ---- a piece

-- the fault of a piece, by three conditions: it passes the limit on lines; the byte at which its line begins is past the limit on
-- bytes; the piece passes the limit on bytes
abbrev by_limits : Bool → Bool → Bool → Option LineFault
by_limits lines beginning bytes =
    cond lines (Some (cond beginning TooMuchSource TooManyLines)) (cond bytes (Some TooMuchSource) None)

few : (b : Bool) (n : ℕ) → n + cond b 1 0 ≤ most_lines → (b && ltb most_lines (n + 1)) ≡ false
few true n h = le-ltb most_lines (n + 1) h
few false n h = refl

many : (b : Bool) (n : ℕ) → b ≡ true → most_lines < n + 1 → (b && ltb most_lines (n + 1)) ≡ true
many true n e h = lt-ltb most_lines (n + 1) h
many false n e h = absurd (cc)

and_last : (b c : Bool) → (b && c) ≡ true → c ≡ true
and_last true c e = e
and_last false c e = absurd (cc)

module _ (before : List RawLine) (piece : RawLine) where
  abbrev starts_late : Bool
  starts_late = ltb most_bytes (bytes_in before + begins_at piece.bytes)

  abbrev ends_late : Bool
  ends_late = ltb most_bytes (bytes_in before + size_of piece)

  abbrev is_more : Bool
  is_more = is_line piece && ltb most_lines (lines_in before + 1)

  by_more : (b : Bool) → is_more ≡ b → fault_at before piece ≡ by_limits b starts_late ends_late
  by_more b e = ap (λ c. by_limits c starts_late ends_late) e

  pub within : bytes_in before + size_of piece ≤ most_bytes
      → lines_in before + cond (is_line piece) 1 0 ≤ most_lines → fault_at before piece ≡ None
  within bytes lines = by_more false (few (is_line piece) (lines_in before) lines)
      ∙ ap (λ c. by_limits false starts_late c) (le-ltb most_bytes (bytes_in before + size_of piece) bytes)

  pub too_much : most_bytes < bytes_in before + size_of piece
      → (most_lines < lines_in before + 1 → most_bytes < bytes_in before + begins_at piece.bytes)
      → fault_at before piece ≡ Some TooMuchSource
  too_much bytes starts = elim (either is_more) [
    | inl more ↦
        let full : most_lines < lines_in before + 1 =
        ltb-true most_lines (lines_in before + 1) (and_last (is_line piece) (ltb most_lines (lines_in before + 1)) more) in
        by_more true more ∙ ap (λ c. by_limits true c ends_late)
        (lt-ltb most_bytes (bytes_in before + begins_at piece.bytes) (starts full))
    | inr no_more ↦ by_more false no_more ∙ ap (λ c. by_limits false starts_late c)
        (lt-ltb most_bytes (bytes_in before + size_of piece) bytes)
  ]

  pub too_many : is_line piece ≡ true → most_lines < lines_in before + 1
      → bytes_in before + begins_at piece.bytes ≤ most_bytes → fault_at before piece ≡ Some TooManyLines
  too_many is full starts = by_more true (many (is_line piece) (lines_in before) is full)
      ∙ ap (λ c. by_limits true c ends_late) (le-ltb most_bytes (bytes_in before + begins_at piece.bytes) starts)

  by_bytes : (b c : Bool) → ends_late ≡ b → is_more ≡ c → fault_at before piece ≡ None → b ≡ false
  by_bytes b true e f none = let some = sym (by_more true f) ∙ none in absurd (cc)
  by_bytes true false e f none =
      let some = sym (by_more false f ∙ ap (λ d. by_limits false starts_late d) e) ∙ none in absurd (cc)
  by_bytes false false e f none = refl

  pub no_fault : fault_at before piece ≡ None → bytes_in before + size_of piece ≤ most_bytes
  no_fault none = elim (cases_lt most_bytes (bytes_in before + size_of piece)) [
    | inl lt ↦
        let late = lt-ltb most_bytes (bytes_in before + size_of piece) lt in
        let early = by_bytes ends_late is_more refl refl none in
        absurd (cc)
    | inr le ↦ le
  ]

-- an empty piece that no line feed ends passes no limit
pub empty_within : (before : List RawLine) → bytes_in before ≤ most_bytes → fault_at before (raw [] false) ≡ None
empty_within before h = by_more before (raw [] false) false refl
    ∙ ap (λ c. by_limits false (starts_late before (raw [] false)) c) (le-ltb most_bytes (bytes_in before + 0) (omega arith))

-- ---- the byte at which a line begins

pub begins_after : (nuls more : List ℕ) → cleaned nuls ≡ [] → begins_at (nuls ++ more) ≡ length nuls + begins_at more
begins_after [] more e = omega arith
begins_after (byte ∷ nuls) more e = elim (either (byte == 0)) [
  | inl nul ↦
      let rest = begins_after nuls more (rw nul at e) in
      rw nul (omega (arith, rest))
  | inr some ↦
      let none : as_read byte ∷ cleaned nuls ≡ [] = rw some at e in
      absurd (cc)
]

begins_some : (bytes : List ℕ) → 0 < begins_at bytes
begins_some [] = omega arith
begins_some (byte ∷ bytes) = elim (either (byte == 0)) [
  | inl nul ↦ rw nul (omega arith)
  | inr some ↦ rw some (omega arith)
]

begins_here : (byte : ℕ) (bytes : List ℕ) → (byte == 0) ≡ false → begins_at (byte ∷ bytes) ≡ 1
begins_here byte bytes e = rw e refl

begins_at_end : (nuls : List ℕ) → cleaned nuls ≡ [] → begins_at nuls ≡ length nuls + 1
begins_at_end nuls e = ap begins_at (sym (append-nil nuls)) ∙ begins_after nuls [] e

-- a piece with a byte other than NUL is a line
has_line : (nuls : List ℕ) (byte : ℕ) (more : List ℕ) (has_line_feed : Bool) → cleaned nuls ≡ [] → (byte == 0) ≡ false
    → is_line (raw (nuls ++ byte ∷ more) has_line_feed) ≡ true
has_line nuls byte more true e some = refl
has_line nuls byte more false e some =
    let whole : cleaned (nuls ++ byte ∷ more) ≡ cleaned (byte ∷ more) =
    cleaned-append nuls (byte ∷ more) ∙ ap (λ (t : List ℕ). t ++ cleaned (byte ∷ more)) e in
    rw (whole, some) refl

-- ---- bytes that aren't closed

module _ (before : List RawLine) (unclosed : List ℕ) where
  no_line : (b : Bool) → is_empty (cleaned unclosed) ≡ b → cleaned unclosed ≡ []
      → is_line (raw unclosed false) ≡ false
  no_line b e none = rw none refl

  pub open_within : bytes_in before + length unclosed ≤ most_bytes → lines_in before ≤ most_lines
      → (most_lines < lines_in before + 1 → cleaned unclosed ≡ []) → fault_at before (raw unclosed false) ≡ None
  open_within bytes lines full = within before (raw unclosed false) (omega arith) (elim (cases_lt (lines_in before) most_lines) [
    | inl lt ↦ at_most (is_line (raw unclosed false)) lt
    | inr le ↦
        let none = no_line (is_empty (cleaned unclosed)) refl (full (omega arith)) in
        rw none (omega arith)
  ])
    where
      at_most : (b : Bool) → lines_in before < most_lines → lines_in before + cond b 1 0 ≤ most_lines
      at_most true h = omega arith
      at_most false h = omega arith

  module _ (all : bytes_in before + length unclosed ≡ most_bytes)
      (full : most_lines < lines_in before + 1 → cleaned unclosed ≡ []) where
    pub too_much_at_line_feed : fault_at before (raw unclosed true) ≡ Some TooMuchSource
    too_much_at_line_feed = too_much before (raw unclosed true) (omega arith)
        (λ h. omega (arith, begins_at_end unclosed (full h)))

    pub too_much_at_byte : (byte : ℕ) (more : List ℕ) (has_line_feed : Bool)
        → fault_at before (raw (unclosed ++ byte ∷ more) has_line_feed) ≡ Some TooMuchSource
    too_much_at_byte byte more has_line_feed =
        let longer = length-append unclosed (byte ∷ more) in
        too_much before (raw (unclosed ++ byte ∷ more) has_line_feed) (omega arith)
        (λ h. omega (arith, begins_after unclosed (byte ∷ more) (full h), begins_some (byte ∷ more)))

  module _ (room : bytes_in before + length unclosed + 1 ≤ most_bytes) (none : cleaned unclosed ≡ [])
      (full : most_lines < lines_in before + 1) where
    pub too_many_at_line_feed : fault_at before (raw unclosed true) ≡ Some TooManyLines
    too_many_at_line_feed = too_many before (raw unclosed true) refl full (omega (arith, begins_at_end unclosed none))

    pub too_many_at_byte : (byte : ℕ) (more : List ℕ) (has_line_feed : Bool) → (byte == 0) ≡ false
        → fault_at before (raw (unclosed ++ byte ∷ more) has_line_feed) ≡ Some TooManyLines
    too_many_at_byte byte more has_line_feed some = too_many before (raw (unclosed ++ byte ∷ more) has_line_feed)
        (has_line unclosed byte more has_line_feed none some) full
        (omega (arith, begins_after unclosed (byte ∷ more) none, begins_here byte more some))

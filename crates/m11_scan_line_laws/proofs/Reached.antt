-- The input that calls have read so far, and its reading.
use Rattle.std.proofs.Common.{◌≡◌, ℕ, ◌+◌, ◌<◌, ◌≤◌, true, false, cond, List, [], ◌∷◌, ◌++◌, length, map, Option, Some, None, refl, sym, ap, ◌∙◌, arith, append_assoc, inl, inr}
use Rattle.std.specs.Prelude.{◌==◌}
use Rattle.std.proofs.lemmas.List.{append-nil}
use Rattle.m11_scan.specs.declared.fault.LineFault.{LineFault}
use Rattle.m11_scan.specs.declared.fault.LineFault.TheVariants.{TooMuchSource, TooManyLines}
use Rattle.m11_scan.specs.Line.{SourceLine, line_of}
use Rattle.m11_scan.specs.Lines.{RawLine, Cut, cut, cleaned, is_line, line_text, bytes_in, lines_in, most_bytes, most_lines}
use Rattle.m11_scan.specs.Reader.{Position, Gave, Came, ReadsLine}
use Rattle.m11_scan.proofs.Cuts.{cut_joined}
use Rattle.m11_scan.proofs.Gaves.{gave_none, gave_both}
use Rattle.m11_scan_line_laws.specs.Readings.{Reading, lines_of, reading_from, reading_of_input}
use Rattle.m11_scan_line_laws.specs.Calls.{HasRead}
use Rattle.m11_scan_line_laws.proofs.Limits.{open_within, too_much_at_line_feed, too_much_at_byte, too_many_at_line_feed, too_many_at_byte}
use Rattle.m11_scan_line_laws.proofs.Passing.{passed, extends, reading_after, stopped, stops_at}
use Rattle.m11_scan_line_laws.proofs.Pieces.{following, joined, cut_more, after_none, bytes_in-append, lines_in-append, bytes_in-push, lines_in-more, lines_of-append, no_lines}

pub begins : (position : Position) → HasRead position position []
begins position = record {
  given = [];
  pieces = [];
  gave = gave_none position.texts;
  is_cut = refl;
  are = refl;
  ends = inl refl;
  bytes_left = omega arith;
  lines_left = omega arith;
  faults = refl;
}

line_alone : (piece : RawLine) → is_line piece ≡ true → lines_of (piece ∷ []) ≡ line_of (line_text piece) ∷ []
line_alone piece is =
    ap (λ b. map (λ p. line_of (line_text p)) (cond b (piece ∷ []) [])) is

pub goes_on : (first middle now : Position) (lines : List SourceLine) (line : SourceLine) → HasRead first middle lines
    → ReadsLine middle now line → HasRead first now (lines ++ line ∷ [])
goes_on first middle now lines line h r =
    let pieces : List RawLine = r.passed ++ r.raw ∷ [] in
    let size = bytes_in-push r.passed r.raw in
    let count = lines_in-more r.passed r.raw r.some in
    record {
      given = h.given ++ r.given;
      pieces = h.pieces ++ pieces;
      gave = gave_both first.texts middle.texts now.texts h.given r.given h.gave r.gave;
      is_cut = cut_joined h.given r.given h.pieces pieces [] h.is_cut r.is_cut;
      are = ap (λ (l : List SourceLine). l ++ line ∷ []) h.are
          ∙ ap (λ (l : SourceLine). lines_of h.pieces ++ l ∷ []) r.is
          ∙ ap (λ (l : List SourceLine). lines_of h.pieces ++ l) (sym (line_alone r.raw r.some))
          ∙ ap (λ (l : List SourceLine). lines_of h.pieces ++ (l ++ lines_of (r.raw ∷ []))) (sym (no_lines r.passed r.none))
          ∙ ap (λ (l : List SourceLine). lines_of h.pieces ++ l) (sym (lines_of-append r.passed (r.raw ∷ [])))
          ∙ sym (lines_of-append h.pieces pieces);
      ends = inr (h.pieces ++ r.passed, r.raw, sym (append_assoc h.pieces r.passed (r.raw ∷ [])), r.some);
      bytes_left = omega (arith, h.bytes_left, r.bytes_left, size, bytes_in-append h.pieces pieces);
      lines_left = omega (arith, h.lines_left, r.lines_left, r.none, count, lines_in-append h.pieces pieces);
      faults = r.faults ∙ h.faults;
    }

-- ---- up to a position in a piece

pub record Reached (first now : Position) (lines : List SourceLine) : Type 0 where
  pub given : List (Option ℕ)
  pub pieces : List RawLine
  pub unclosed : List ℕ
  pub gave : Gave first.texts now.texts given
  pub is_cut : cut given ≡ record { lines = pieces; unclosed = unclosed }
  pub are : lines_of pieces ≡ lines
  pub bytes_left : first.bytes_left ≡ bytes_in pieces + length unclosed + now.bytes_left
  pub lines_left : first.lines_left ≡ lines_in pieces + now.lines_left
  pub begins : now.lines_left ≡ 0 → cleaned unclosed ≡ []
  pub faults : now.faults ≡ first.faults

pub after_lines : (first now : Position) (lines : List SourceLine) → HasRead first now lines → Reached first now lines
after_lines first now lines h = record {
  given = h.given;
  pieces = h.pieces;
  unclosed = [];
  gave = h.gave;
  is_cut = h.is_cut;
  are = sym h.are;
  bytes_left = omega (arith, h.bytes_left);
  lines_left = h.lines_left;
  begins = λ e. refl;
  faults = h.faults;
}

pub after_more : (first middle now : Position) (lines : List SourceLine) (given : List (Option ℕ))
    → HasRead first middle lines → Came middle now given → Reached first now lines
after_more first middle now lines given h c = record {
  given = h.given ++ given;
  pieces = h.pieces ++ c.passed;
  unclosed = c.unclosed;
  gave = gave_both first.texts middle.texts now.texts h.given given h.gave c.gave;
  is_cut = cut_joined h.given given h.pieces c.passed c.unclosed h.is_cut c.is_cut;
  are = lines_of-append h.pieces c.passed
      ∙ ap (λ (l : List SourceLine). lines_of h.pieces ++ l) (no_lines c.passed c.none)
      ∙ append-nil (lines_of h.pieces) ∙ sym h.are;
  bytes_left = omega (arith, h.bytes_left, c.bytes_left, bytes_in-append h.pieces c.passed);
  lines_left = omega (arith, h.lines_left, c.lines_left, c.none, lines_in-append h.pieces c.passed);
  begins = λ e. c.begins (omega (arith, c.lines_left, e));
  faults = c.faults ∙ h.faults;
}

-- ---- the reading of the input so far

module _ (first now : Position) (lines : List SourceLine) (r : Reached first now lines)
    (bytes : first.bytes_left ≡ most_bytes) (count : first.lines_left ≡ most_lines) where
  full : most_lines < lines_in r.pieces + 1 → cleaned r.unclosed ≡ []
  full h = r.begins (omega (arith, r.lines_left, count))

  from_here : (rest : List (Option ℕ))
      → reading_of_input (r.given ++ rest) ≡ reading_after r.pieces (following r.unclosed (cut rest))
  from_here rest = ap (λ (c : Cut). reading_after [] c) (cut_more r.given rest)
      ∙ ap (λ (c : Cut). reading_after [] (joined c (cut rest))) r.is_cut
      ∙ passed [] r.pieces (following r.unclosed (cut rest)).lines (following r.unclosed (cut rest)).unclosed
      (omega (arith, r.bytes_left, bytes)) (omega (arith, r.lines_left, count))

  -- whatever follows this input, the reading begins with these lines
  pub lines_go_on : (rest : List (Option ℕ))
      → (more : List SourceLine) × ((reading_of_input (r.given ++ rest)).lines ≡ lines ++ more)
  lines_go_on rest =
      let ends = following r.unclosed (cut rest) in
      let e = extends r.pieces ends.lines ends.unclosed in (
        e.0,
        ap (λ (read : Reading). read.lines) (from_here rest) ∙ e.1
            ∙ ap (λ (l : List SourceLine). l ++ e.0) r.are,
      )

  -- if nothing follows this input, its reading has exactly these lines, and no fault
  pub reading_so_far : reading_of_input r.given ≡ record { lines = lines; fault = None }
  reading_so_far =
      ap reading_of_input (sym (append-nil r.given)) ∙ from_here []
      ∙ ap (reading_after r.pieces) (after_none r.unclosed [])
      ∙ ap (λ (u : List ℕ). reading_from r.pieces [] u) (append-nil r.unclosed)
      ∙ ap (λ (f : Option LineFault). record { lines = lines_of r.pieces; fault = f })
      (open_within r.pieces r.unclosed (omega (arith, r.bytes_left, bytes)) (omega (arith, r.lines_left, count)) full)
      ∙ ap (λ (l : List SourceLine). record { lines = l; fault = None }) r.are

  are_stopped : (fault : LineFault) → stopped r.pieces fault ≡ record { lines = lines; fault = Some fault }
  are_stopped fault = ap (λ (l : List SourceLine). record { lines = l; fault = Some fault }) r.are

  -- if a byte past a limit follows this input, the reading has exactly these lines, and the fault of the limit
  pub stops_at_bytes : (byte : ℕ) (rest : List (Option ℕ)) → now.bytes_left ≡ 0
      → reading_of_input (r.given ++ Some byte ∷ rest) ≡ record { lines = lines; fault = Some TooMuchSource }
  stops_at_bytes byte rest none =
      let all : bytes_in r.pieces + length r.unclosed ≡ most_bytes = omega (arith, r.bytes_left, bytes, none) in
      from_here (Some byte ∷ rest)
      ∙ stops_at r.pieces TooMuchSource r.unclosed byte (too_much_at_byte r.pieces r.unclosed all full byte) rest
      (too_much_at_line_feed r.pieces r.unclosed all full)
      ∙ are_stopped TooMuchSource

  pub stops_at_lines : (byte left : ℕ) (rest : List (Option ℕ)) → (byte == 0) ≡ false → now.lines_left ≡ 0
      → now.bytes_left ≡ 1 + left
      → reading_of_input (r.given ++ Some byte ∷ rest) ≡ record { lines = lines; fault = Some TooManyLines }
  stops_at_lines byte left rest some none room =
      let within : bytes_in r.pieces + length r.unclosed + 1 ≤ most_bytes = omega (arith, r.bytes_left, bytes, room) in
      let more : most_lines < lines_in r.pieces + 1 = omega (arith, r.lines_left, count, none) in
      let nuls = r.begins none in
      from_here (Some byte ∷ rest)
      ∙ stops_at r.pieces TooManyLines r.unclosed byte
      (λ later has_line_feed. too_many_at_byte r.pieces r.unclosed within nuls more byte later has_line_feed some) rest
      (too_many_at_line_feed r.pieces r.unclosed within nuls more)
      ∙ are_stopped TooManyLines

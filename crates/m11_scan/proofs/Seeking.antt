-- Looking for a line in one source after another.
use Rattle.std.proofs.Common.{◌≡◌, ℕ, ◌+◌, ◌-◌, ◌<◌, ◌≤◌, Bool, true, false, cond, ltb, List, [], ◌∷◌, ◌++◌, length, map, drop, get_or, set, Option, Some, None, Ok, Err, refl, sym, ap, subst, ◌∙◌, arith, append_assoc, add-one, inl, inr}
use Rattle.std.proofs.lemmas.Bool.{le-ltb, ltb-false, ltb-true}
use Rattle.std.proofs.lemmas.List.{length-map, append-nil, get_or-map, map-set, drop-set, drop-set-lt, drop_all}
use Rattle.std.proofs.Math.Seq.{drop-cons, map-set_same}
use Rattle.std.proofs.lemmas.List.Sums.{sum_by-append}
use Rattle.m11_base.specs.Devices.{Rises}
use Rattle.m11_base.specs.Feed.{Text, GivesByte, GivesFailure}
use Rattle.m11_scan.specs.declared.fault.LineFault.{LineFault}
use Rattle.m11_scan.specs.declared.fault.LineFault.TheVariants.{Read, TooMuchSource, TooManyLines}
use Rattle.m11_scan.specs.declared.sources.LineEnd.TheVariants.{LineFeed, SourceEnd}
use Rattle.m11_scan.specs.Lines.{RawLine, cut, cleaned, is_empty, is_line, line_text, size_of, bytes_in, lines_in}
use Rattle.m11_scan.specs.Line.{SourceLine, line_of}
use Rattle.m11_scan.specs.OpenLine.{OpenLine, nothing_open, with_return, with_all, is_unbegun}
use Rattle.m11_scan.specs.Sources.{Source, source, Took, StopsAt}
use Rattle.m11_scan.specs.Reader.{Position, position_at, Gave, Came, ReadsLine, ReadsEnd, FaultComes, ReadsNext}
use Rattle.m11_scan.proofs.Cuts.{either, raw, bytes_of, cut_joined, cut_open, cut_line_feed, cut_end}
use Rattle.m11_scan.proofs.Gaves.{gave_none, gave_both, gave_bytes, gave_byte, gave_end}
use Rattle.m11_scan.proofs.OpenLines.{at_line_feed, at_end, tells, stays_unbegun}

-- some sources were read: no line was found, and none has begun
pub record Seeks (old now : Position) (line : OpenLine) : Type 0 where
  pub given : List (Option ℕ)
  pub came : Came old now given
  pub closed : came.unclosed ≡ []
  pub none : line ≡ nothing_open

pub begins : (position : Position) → Seeks position position nothing_open
begins position = record {
  given = [];
  came = record {
    passed = [];
    unclosed = [];
    gave = gave_none position.texts;
    is_cut = refl;
    none = refl;
    bytes_left = omega arith;
    lines_left = refl;
    begins = λ e. refl;
    faults = refl;
  };
  closed = refl;
  none = refl;
}

bytes_in-push : (lines : List RawLine) (line : RawLine) → bytes_in (lines ++ line ∷ []) ≡ bytes_in lines + size_of line
bytes_in-push lines line = omega (arith, sum_by-append size_of lines (line ∷ []))

lines_in-push : (lines : List RawLine) (line : RawLine)
    → lines_in (lines ++ line ∷ []) ≡ lines_in lines + cond (is_line line) 1 0
lines_in-push lines line = omega (arith, sum_by-append (λ l. cond (is_line l) 1 0) lines (line ∷ []))

-- the state after some bytes of the next source were read
module _ (old now : Position) (line : OpenLine) (seeks : Seeks old now line) (text : Option Text)
    (texts : List (Option Text)) (fault : ℕ) (here : now.texts ≡ text ∷ texts) (middle : Source) (given : List ℕ)
    (took : Took (ltb 0 now.lines_left) (source text fault now.bytes_left line) middle given) where
  abbrev pub inside : Position
  inside = record {
    source = now.source;
    texts = middle.text ∷ texts;
    faults = now.faults;
    bytes_left = middle.bytes_left;
    lines_left = now.lines_left;
  }

  is_closed : cut seeks.given ≡ record { lines = seeks.came.passed; unclosed = [] }
  is_closed = seeks.came.is_cut
      ∙ ap (λ (u : List ℕ). record { lines = seeks.came.passed; unclosed = u }) seeks.closed

  size : length seeks.came.unclosed ≡ 0
  size = ap length seeks.closed

  gave : Gave old.texts (middle.text ∷ texts) (seeks.given ++ bytes_of given)
  gave = gave_both old.texts now.texts (middle.text ∷ texts) seeks.given (bytes_of given) seeks.came.gave
      (rw here (gave_bytes text middle.text texts given took.gave))

  may_begin : old.lines_left ≡ 0 → cleaned given ≡ []
  may_begin e = took.begins (le-ltb 0 now.lines_left (omega (arith, seeks.came.lines_left)))

  pub came_inside : Came old inside (seeks.given ++ bytes_of given)
  came_inside = record {
    passed = seeks.came.passed;
    unclosed = given;
    gave = gave;
    is_cut = cut_joined seeks.given (bytes_of given) seeks.came.passed [] given is_closed (cut_open given took.in_line)
        ∙ ap (λ (l : List RawLine). record { lines = l; unclosed = given }) (append-nil seeks.came.passed);
    none = seeks.came.none;
    bytes_left = omega (arith, seeks.came.bytes_left, took.bytes_left, size);
    lines_left = seeks.came.lines_left;
    begins = may_begin;
    faults = seeks.came.faults;
  }

  -- the state after a line feed or the end of the source closes the piece
  module _ (last : Option ℕ) (has_line_feed : Bool) (new_texts : List (Option Text))
      (closes : cut (bytes_of given ++ last ∷ []) ≡ record { lines = raw given has_line_feed ∷ []; unclosed = [] })
      (gives : Gave (middle.text ∷ texts) new_texts (last ∷ [])) where
    abbrev whole : List (Option ℕ)
    whole = seeks.given ++ (bytes_of given ++ last ∷ [])

    whole_gave : Gave old.texts new_texts whole
    whole_gave = rw (← (append_assoc seeks.given (bytes_of given) (last ∷ [])))
        (gave_both old.texts (middle.text ∷ texts) new_texts (seeks.given ++ bytes_of given) (last ∷ []) gave gives)

    whole_cut : cut whole ≡ record { lines = seeks.came.passed ++ raw given has_line_feed ∷ []; unclosed = [] }
    whole_cut = cut_joined seeks.given (bytes_of given ++ last ∷ []) seeks.came.passed (raw given has_line_feed ∷ []) []
        is_closed closes

    abbrev piece : RawLine
    piece = raw given has_line_feed

    pub line_closed : (new : Position) (kept : SourceLine) → new.texts ≡ new_texts → is_line piece ≡ true
        → kept ≡ line_of (line_text piece)
        → middle.bytes_left ≡ cond has_line_feed 1 0 + new.bytes_left → now.lines_left ≡ 1 + new.lines_left
        → new.faults ≡ now.faults → ReadsLine old new kept
    line_closed new kept texts-are some is bytes lines faults = record {
      given = whole;
      passed = seeks.came.passed;
      raw = piece;
      gave = rw texts-are whole_gave;
      is_cut = whole_cut;
      none = seeks.came.none;
      some = some;
      is = is;
      bytes_left = omega (arith, seeks.came.bytes_left, took.bytes_left, size, bytes);
      lines_left = omega (arith, seeks.came.lines_left, lines);
      faults = faults ∙ seeks.came.faults;
    }

    pub piece_passed : (new : Position) (line' : OpenLine) → new.texts ≡ new_texts → is_line piece ≡ false
        → middle.bytes_left ≡ cond has_line_feed 1 0 + new.bytes_left → new.lines_left ≡ now.lines_left
        → new.faults ≡ now.faults → line' ≡ nothing_open → Seeks old new line'
    piece_passed new line' texts-are none bytes lines faults nothing = record {
      given = whole;
      came = record {
        passed = seeks.came.passed ++ piece ∷ [];
        unclosed = [];
        gave = rw texts-are whole_gave;
        is_cut = whole_cut;
        none = lines_in-push seeks.came.passed piece ∙ rw none (omega (arith, seeks.came.none));
        bytes_left = omega (arith, seeks.came.bytes_left, took.bytes_left, size, bytes, bytes_in-push seeks.came.passed piece);
        lines_left = lines ∙ seeks.came.lines_left;
        begins = λ e. refl;
        faults = faults ∙ seeks.came.faults;
      };
      closed = refl;
      none = nothing;
    }

-- ---- the feeds as lists

module _ {F : Type 0} (text : F → Option Text) (faults : F → ℕ) (feeds : List F) (i : ℕ) (within : i < length feeds)
    (d x z : F) (x-is : x ≡ get_or feeds i d) where
  pub texts_here : drop i (map text feeds) ≡ text x ∷ drop (i + 1) (map text feeds)
  texts_here =
      let size : i < length (map text feeds) = rw length-map within in
      let first : get_or (map text feeds) i None ≡ text x = get_or-map text feeds i d None within ∙ ap text (sym x-is) in
      rw (add-one, drop-cons (map text feeds) i None, first) refl

  pub texts_after : drop i (map text (set feeds i z)) ≡ text z ∷ drop (i + 1) (map text feeds)
  texts_after =
      let size : i < length (map text feeds) = rw length-map within in
      ap (drop i) (map-set text feeds i z) ∙ drop-set (map text feeds) i (text z) size

  pub texts_past : drop (i + 1) (map text (set feeds i z)) ≡ drop (i + 1) (map text feeds)
  texts_past = ap (drop (i + 1)) (map-set text feeds i z)
      ∙ drop-set-lt (i + 1) (map text feeds) i (text z) (omega arith)

  pub faults_same : faults z ≡ faults x → map faults (set feeds i z) ≡ map faults feeds
  faults_same e = map-set_same faults feeds i z d (e ∙ ap faults x-is)

  pub faults_set : map faults (set feeds i z) ≡ set (map faults feeds) i (faults z)
  faults_set = map-set faults feeds i z

  pub fault_here : get_or (map faults feeds) i 0 ≡ faults x
  fault_here = get_or-map faults feeds i d 0 within ∙ ap faults (sym x-is)

-- ---- the position after reading a source

empty_is : (xs : List ℕ) → is_empty xs ≡ true → xs ≡ []
empty_is [] e = refl
empty_is (x ∷ xs) e = absurd (cc)

not_both : (b : Bool) (A : Type 0) → b ≡ false → b ≡ true → A
not_both true A e f = absurd (cc)
not_both false A e f = absurd (cc)

module _ {F : Type 0} (text : F → Option Text) (faults : F → ℕ) (feeds : List F) (i : ℕ) (within : i < length feeds)
    (d x z : F) (x-is : x ≡ get_or feeds i d) (old : Position) (left left' lines : ℕ) (line line' : OpenLine)
    (seeks : Seeks old (position_at text faults feeds i left lines) line) where
  abbrev now : Position
  now = position_at text faults feeds i left lines

  abbrev before : Source
  before = source (text x) (faults x) left line

  abbrev after : Source
  after = source (text z) (faults z) left' line'

  abbrev later : List (Option Text)
  later = drop (i + 1) (map text feeds)

  here : drop i (map text feeds) ≡ text x ∷ later
  here = texts_here text faults feeds i within d x z x-is

  gone : drop i (map text (set feeds i z)) ≡ text z ∷ later
  gone = texts_after text faults feeds i within d x z x-is

  past : drop (i + 1) (map text (set feeds i z)) ≡ later
  past = texts_past text faults feeds i within d x z x-is

  same : faults z ≡ faults x → map faults (set feeds i z) ≡ map faults feeds
  same = faults_same text faults feeds i within d x z x-is

  module _ (fault : LineFault) (s : StopsAt (ltb 0 lines) before after (Err fault)) where
    abbrev middle : Position
    middle = inside old now line seeks (text x) later (faults x) here s.middle s.given s.took

    counted : s.middle.faults ≡ get_or (map faults feeds) i 0
    counted = s.took.faults ∙ sym (fault_here text faults feeds i within d x z x-is)

    byte_came : (byte : ℕ) → GivesByte s.middle.text (text z) byte
        → Gave (s.middle.text ∷ later) (drop i (map text (set feeds i z))) (Some byte ∷ [])
    byte_came byte g = rw gone (gave_byte s.middle.text (text z) later byte g)

  faulty : (fault : LineFault) (s : StopsAt (ltb 0 lines) before after (Err fault))
      → FaultComes (middle fault s) (position_at text faults (set feeds i z) i left' lines) fault
  faulty Read s =
      let P : ℕ → Type 0 = λ n. GivesFailure s.middle.text (text z) n in
      let Q : ℕ → Type 0 = λ n. Rises n (faults z) in
      record {
        text = s.middle.text;
        text' = text z;
        texts = later;
        count = faults z;
        was = refl;
        is = gone;
        gives = subst P (counted Read s) s.last.0;
        rises = subst Q (counted Read s) s.last.1;
        source = refl;
        faults = faults_set text faults feeds i within d x z x-is;
      }
  faulty TooMuchSource s =
      (s.last.0, byte_came TooMuchSource s s.last.0 s.last.1, same (s.last.2 ∙ s.took.faults), s.last.3)
  faulty TooManyLines s =
      let none : lines ≤ 0 = ltb-false 0 lines s.last.5 in (
        s.last.0,
        byte_came TooManyLines s s.last.0 s.last.1,
        same (s.last.2 ∙ s.took.faults),
        s.last.4,
        omega arith,
        s.last.3,
      )

  pub fault_met : (fault : LineFault) → StopsAt (ltb 0 lines) before after (Err fault)
      → ReadsNext old (position_at text faults (set feeds i z) i left' lines) (Err fault)
  fault_met fault s = (
    seeks.given ++ bytes_of s.given,
    middle fault s,
    came_inside old now line seeks (text x) later (faults x) here s.middle s.given s.took,
    faulty fault s,
  )

  pub line_feed_met : (kept : SourceLine) → StopsAt (ltb 0 lines) before after (Ok LineFeed) → kept ≡ line'.kept
      → ReadsLine old (position_at text faults (set feeds i z) i left' (lines - 1)) kept
  line_feed_met kept s is =
      let all : line' ≡ with_all nothing_open s.given =
      s.last.3 ∙ s.took.line ∙ ap (λ (l : OpenLine). with_all l s.given) seeks.none in
      let some : 0 < lines = ltb-true 0 lines s.last.4 in
      line_closed old now line seeks (text x) later (faults x) here s.middle s.given s.took (Some 10) true
      (text z ∷ later) (cut_line_feed s.given s.took.in_line)
      (gave_byte s.middle.text (text z) later 10 s.last.0)
      (position_at text faults (set feeds i z) i left' (lines - 1)) kept gone refl
      (is ∙ at_line_feed line' s.given all) s.last.2 (omega arith) (same (s.last.1 ∙ s.took.faults))

  module _ (s : StopsAt (ltb 0 lines) before after (Ok SourceEnd)) where
    all_kept : line' ≡ with_all nothing_open s.given
    all_kept = s.last.3 ∙ s.took.line ∙ ap (λ (l : OpenLine). with_all l s.given) seeks.none

    begun : is_unbegun line' ≡ false → is_empty (cleaned s.given) ≡ false
    begun e = sym (tells line' s.given all_kept) ∙ e

    pub room_for_line : is_unbegun line' ≡ false → 1 ≤ lines
    room_for_line e = elim (either (ltb 0 lines)) [
      | inl some ↦ let more : 0 < lines = ltb-true 0 lines some in omega arith
      | inr none ↦
          not_both (is_empty (cleaned s.given)) (1 ≤ lines) (begun e) (ap is_empty (s.took.begins none))
    ]

    pub end_met : (kept : SourceLine) → is_unbegun line' ≡ false → kept ≡ with_return line'
        → ReadsLine old (position_at text faults (set feeds i z) (i + 1) left' (lines - 1)) kept
    end_met kept e is =
        let room : 1 ≤ lines = room_for_line e in
        let some = begun e in
        line_closed old now line seeks (text x) later (faults x) here s.middle s.given s.took None false later
        (cut_end s.given s.took.in_line) (gave_end s.middle.text (text z) later s.last.0)
        (position_at text faults (set feeds i z) (i + 1) left' (lines - 1)) kept past (rw some refl)
        (is ∙ at_end line' s.given all_kept) (omega (arith, s.last.2)) (omega arith)
        (same (s.last.1 ∙ s.took.faults))

    pub end_passed : is_unbegun line' ≡ true
        → Seeks old (position_at text faults (set feeds i z) (i + 1) left' lines) line'
    end_passed e =
        let empty : is_empty (cleaned s.given) ≡ true = sym (tells line' s.given all_kept) ∙ e in
        piece_passed old now line seeks (text x) later (faults x) here s.middle s.given s.took None false later
        (cut_end s.given s.took.in_line) (gave_end s.middle.text (text z) later s.last.0)
        (position_at text faults (set feeds i z) (i + 1) left' lines) line' past (rw empty refl)
        (omega (arith, s.last.2)) refl (same (s.last.1 ∙ s.took.faults))
        (stays_unbegun line' s.given all_kept (empty_is (cleaned s.given) empty))

pub all_ended : {F : Type 0} (text : F → Option Text) (faults : F → ℕ) (feeds : List F) (i left lines : ℕ)
    (old : Position) (line : OpenLine) → Seeks old (position_at text faults feeds i left lines) line → length feeds ≤ i
    → ReadsEnd old (position_at text faults feeds i left lines)
all_ended text faults feeds i left lines old line seeks le = record {
  given = seeks.given;
  came = seeks.came;
  closed = seeks.closed;
  ended = drop_all i (map text feeds) (rw length-map le);
}

-- Reading one source, step by step.
use Rattle.std.proofs.Common.{◌≡◌, ℕ, ◌+◌, ◌-◌, ◌≤◌, Bool, true, false, List, [], ◌∷◌, ◌++◌, length, map, take, drop, min, Option, Some, None, Result, Ok, Err, refl, sym, ap, ◌∙◌, arith, append_assoc}
use Rattle.std.specs.Prelude.{◌==◌, not, filter}
use Rattle.std.proofs.lemmas.List.{length-append, length-take, length-take-le, map-append, take-append-drop, take-append-le}
use Rattle.std.proofs.lemmas.List.Elements.{filter-append}
use Rattle.m11_base.specs.Feed.{Text, GivesByte, GivesBytes}
use Rattle.m11_scan.specs.declared.fault.LineFault.{LineFault}
use Rattle.m11_scan.specs.declared.fault.LineFault.TheVariants.{Read, TooMuchSource, TooManyLines}
use Rattle.m11_scan.specs.declared.sources.LineEnd.{LineEnd}
use Rattle.m11_scan.specs.declared.sources.LineEnd.TheVariants.{LineFeed}
use Rattle.m11_scan.specs.Lines.{cleaned, as_read}
use Rattle.m11_scan.specs.OpenLine.{OpenLine, with_all}
use Rattle.m11_scan.specs.Sources.{Source, source, Took, CameLast, StopsAt, TookReady, TookOf, ConsumesByte}
use Rattle.m11_scan.proofs.Runs.{free_then, with_all-append}

-- ---- the bytes read from a feed

pub gave_nothing : (t : Option Text) → GivesBytes t t []
gave_nothing None = tt
gave_nothing (Some t) = (t.bytes, refl, refl)

pub gave_then : (t0 t1 t2 : Option Text) (xs ys : List ℕ) → GivesBytes t0 t1 xs → GivesBytes t1 t2 ys
    → GivesBytes t0 t2 (xs ++ ys)
gave_then None t1 t2 xs ys g h = tt
gave_then (Some t) t1 t2 xs ys g h =
    let next = rw g.2 at h in
    (next.0, g.1 ∙ ap (λ (zs : List ℕ). xs ++ zs) next.1 ∙ sym (append_assoc xs ys next.0), next.2)

pub gave_one : (t t' : Option Text) (byte : ℕ) → GivesByte t t' byte → GivesBytes t t' (byte ∷ [])
gave_one None t' byte g = tt
gave_one (Some t) t' byte g = g

gave_last : (t t' : Option Text) (xs : List ℕ) (byte : ℕ) → GivesBytes t t' (xs ++ byte ∷ [])
    → (middle : Option Text) × GivesBytes t middle xs × GivesByte middle t' byte
gave_last None t' xs byte g = (None, tt, tt)
gave_last (Some t) t' xs byte g = (
  Some (record { bytes = byte ∷ g.0; ending = t.ending }),
  (byte ∷ g.0, g.1 ∙ append_assoc xs (byte ∷ []) g.0, refl),
  (g.0, refl, g.2),
)

-- ---- the bytes of a source

pub cleaned-append : (xs ys : List ℕ) → cleaned (xs ++ ys) ≡ cleaned xs ++ cleaned ys
cleaned-append xs ys = ap (map as_read) (filter-append (λ byte. not (byte == 0)) xs ys)
    ∙ map-append as_read (filter (λ byte. not (byte == 0)) xs) (filter (λ byte. not (byte == 0)) ys)

pub took_nothing : (b : Bool) (s : Source) → Took b s s []
took_nothing b s = record {
  gave = gave_nothing s.text;
  faults = refl;
  bytes_left = omega arith;
  in_line = tt;
  begins = λ e. refl;
  line = refl;
}

pub took_then : (b : Bool) (old middle new : Source) (xs ys : List ℕ) → Took b old middle xs → Took b middle new ys
    → Took b old new (xs ++ ys)
took_then b old middle new xs ys g h = record {
  gave = gave_then old.text middle.text new.text xs ys g.gave h.gave;
  faults = h.faults ∙ g.faults;
  bytes_left = omega (arith, length-append xs ys, g.bytes_left, h.bytes_left);
  in_line = free_then xs ys g.in_line h.in_line;
  begins = λ e. cleaned-append xs ys ∙ ap (λ (t : List ℕ). t ++ cleaned ys) (g.begins e) ∙ h.begins e;
  line = h.line ∙ ap (λ (l : OpenLine). with_all l ys) g.line ∙ sym (with_all-append old.line xs ys);
}

pub stops_then : (b : Bool) (old middle new : Source) (result : Result LineEnd LineFault) (xs : List ℕ)
    → Took b old middle xs → StopsAt b middle new result → StopsAt b old new result
stops_then b old middle new result xs g s = record {
  middle = s.middle;
  given = xs ++ s.given;
  took = took_then b old middle s.middle xs s.given g s.took;
  last = s.last;
}

-- ---- ready bytes

none_begins : (b : Bool) (A : Type 0) → b ≡ true → b ≡ false → A
none_begins true A e f = absurd (cc)
none_begins false A e f = absurd (cc)

take_of_front : (k n : ℕ) (xs : List ℕ) → k ≤ n → n ≤ length xs → take k (take n xs) ≡ take k xs
take_of_front k n xs le within =
    let size : length (take n xs) ≡ n = length-take-le n xs within in
    let front : take k (take n xs ++ drop n xs) ≡ take k (take n xs) =
    take-append-le k (take n xs) (drop n xs) (omega arith) in
    sym front ∙ ap (take k) (take-append-drop n xs)

module _ (b : Bool) (text text' : Option Text) (faults faults' left : ℕ) (line line' : OpenLine) (shown : List ℕ)
    (n count : ℕ) (is : b ≡ true) (within : n ≤ length shown) (room : n ≤ left) (same : faults' ≡ faults)
    (gave : GivesBytes text text' (take count shown)) where
  size : length (take n shown) ≡ n
  size = length-take-le n shown within

  move : (xs : List ℕ) → take count shown ≡ xs → GivesBytes text text' xs
  move xs e = rw (← e) gave

  pub ready_taken : (is_closed : Bool) → TookOf (take n shown) line line' count is_closed
      → TookReady b (source text faults left line) (source text' faults' (left - count) line') is_closed
  ready_taken true t =
      let long : length (take count (take n shown)) ≡ length (t.0 ++ 10 ∷ []) = ap length t.1 in
      let one : length (t.0 ++ 10 ∷ []) ≡ length t.0 + 1 = length-append t.0 (10 ∷ []) in
      let short : length (take count (take n shown)) ≡ min count (length (take n shown)) =
      length-take count (take n shown) in
      let size : length (take n shown) ≡ n = size in
      let counted : count ≡ length t.0 + 1 = t.2 in
      let le : count ≤ n = omega arith in
      let all : take count shown ≡ t.0 ++ 10 ∷ [] = sym (take_of_front count n shown le within) ∙ t.1 in
      let last = gave_last text text' t.0 10 (move (t.0 ++ 10 ∷ []) all) in
      record {
        middle = source last.0 faults (left - length t.0) line';
        given = t.0;
        took = record {
          gave = last.1;
          faults = refl;
          bytes_left = omega arith;
          in_line = t.3;
          begins = λ e. none_begins b (cleaned t.0 ≡ []) is e;
          line = t.4;
        };
        last = (last.2, same, omega arith, refl, is);
      }
  ready_taken false t =
      let size : length (take n shown) ≡ n = size in
      let counted : count ≡ length (take n shown) = t.0 in
      let all : count ≡ n = omega arith in (
        take n shown,
        record {
          gave = move (take n shown) (ap (λ k. take k shown) all);
          faults = same;
          bytes_left = omega arith;
          in_line = t.1;
          begins = λ e. none_begins b (cleaned (take n shown) ≡ []) is e;
          line = t.2;
        },
      )

-- ---- one byte

module _ (b : Bool) (text text' : Option Text) (faults faults' left left' : ℕ) (line line' : OpenLine) (byte : ℕ)
    (gave : GivesByte text text' byte) (same : faults' ≡ faults) where
  abbrev before : Source
  before = source text faults left line

  abbrev after : Source
  after = source text' faults' left' line'

  pub byte_taken : ConsumesByte b byte left left' line line' (Ok false) → Took b before after (byte ∷ [])
  byte_taken t = record {
    gave = gave_one text text' byte gave;
    faults = same;
    bytes_left = omega (arith, t.0);
    in_line = (t.2, tt);
    begins = λ e. let nul = t.3 e in rw nul refl;
    line = t.1;
  }

  move_byte : (last : ℕ) → byte ≡ last → GivesByte text text' last
  move_byte last e = rw (← e) gave

  pub line_feed_taken : ConsumesByte b byte left left' line line' (Ok true) → CameLast b before after (Ok LineFeed)
  line_feed_taken t = (move_byte 10 t.2, same, t.0, t.1, t.3)

  pub refused : (fault : LineFault) → ConsumesByte b byte left left' line line' (Err fault)
      → CameLast b before after (Err fault)
  refused Read t = absurd t
  refused TooMuchSource t = (byte, gave, same, t.0, t.1)
  refused TooManyLines t = (byte, gave, same, t.0, t.1, t.2)

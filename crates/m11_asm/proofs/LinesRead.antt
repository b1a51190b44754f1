-- The lines that a reader has returned so far, as the beginning of a reading.
use Rattle.std.proofs.Common.{◌≡◌, ◌∙◌, ◌≤◌, ℕ, List, [], ◌∷◌, ◌++◌, length, filter, Option, Some, None, Ok, Err, refl, sym, ap, subst, arith}
use Rattle.std.proofs.lemmas.List.{length-map}
use Rattle.std.proofs.lemmas.List.Sums.{length-filter}
use Rattle.m11_base.specs.Feed.{Text}
use Rattle.m11_scan.specs.Line.{SourceLine, line_of}
use Rattle.m11_scan.specs.Lines.{RawLine, is_line, line_text, lines_in, most_lines}
use Rattle.m11_scan.specs.Reader.{LineReading, ReadsNext, position, unread}
use Rattle.m11_scan.specs.declared.fault.LineFault.TheVariants.{Read, TooMuchSource, TooManyLines}
use Rattle.m11_scan_line_laws.specs.Calls.{BeginReading, HasRead, start}
use Rattle.m11_scan_line_laws.specs.Readings.{Reading, lines_of, reading_of}
use Rattle.m11_scan_line_laws.specs.Extents.{GaveAll, GaveLines, GavePast, GaveTill}
use Rattle.m11_scan_line_laws.proofs.Feeds as feeds
use Rattle.m11_scan_line_laws.proofs.HowFar as how_far
use Rattle.m11_scan_line_laws.proofs.Reached.{begins, goes_on}
use Rattle.m11_base_writes.specs.Passes.{Pass, pass_of}
use Rattle.m11_asm.specs.Passes.{Reads, ReadsTill}

-- the lines are the beginning of a reading of the feeds
pub record Begun {F : Type 0} (pass : Pass F) (lines : List SourceLine) : Type 0 where
  pub reading : Reading
  pub reads : Reads pass reading
  pub more : List SourceLine
  pub are : reading.lines ≡ lines ++ more

-- the reader has returned these lines
pub record SoFar {F : Type 0} (text : F → Option Text) (faults : F → ℕ) (initial here : List F) (reader : LineReading)
    (lines : List SourceLine) : Type 0 where
  pub has : HasRead (start text faults initial) (position text faults here reader) lines
  pub sound : reader.fault ≡ None

lines_counted : (pieces : List RawLine) → length (lines_of pieces) ≡ lines_in pieces
lines_counted pieces =
    length-map (filter is_line pieces) (λ piece. line_of (line_text piece)) ∙ length-filter is_line pieces

module _ {F : Type 0} (text : F → Option Text) (faults : F → ℕ) where
  pub reader_begins : (initial : List F) (reader : LineReading)
      → reader ≡ unread → SoFar text faults initial initial reader []
  reader_begins initial reader is =
      let P : LineReading → Type 0 = λ r. SoFar text faults initial initial r [] in
      subst P (sym is) (record { has = begins (start text faults initial); sound = refl })

  module _ (initial here : List F) (reader : LineReading) (lines : List SourceLine) (so : SoFar text faults initial here reader lines) where
    pub begun : Begun (pass_of text faults initial here) lines
    begun =
        let b : BeginReading text faults initial here lines =
        feeds.so_far text faults initial here reader.source reader.bytes_left reader.lines_left lines so.has in
        record { reading = reading_of b.1; reads = (b.0, b.1, b.2, refl); more = b.3; are = b.4 }

    -- there are at most as many lines as the limit allows
    pub few_read : length lines ≤ most_lines
    few_read =
        let count = ap (λ (l : List SourceLine). length l) so.has.are ∙ lines_counted so.has.pieces in
        omega (arith, count, so.has.lines_left)

    pub lines_given : GaveLines text initial here lines
    lines_given = how_far.just_lines text faults initial here reader.source reader.bytes_left reader.lines_left lines so.has

    module _ (later : List F) (reader' : LineReading) where
      pub one_more : (line : SourceLine) → ReadsNext (position text faults here reader) (position text faults later reader') (Ok (Some line))
          → reader'.fault ≡ None → SoFar text faults initial later reader' (lines ++ line ∷ [])
      one_more line next sound = record {
        has = goes_on (start text faults initial) (position text faults here reader) (position text faults later reader') lines line so.has next;
        sound = sound;
      }

      pub all_read : ReadsNext (position text faults here reader) (position text faults later reader') (Ok None)
          → Reads (pass_of text faults initial later) (record { lines = lines; fault = None })
      all_read next =
          feeds.all text faults initial later reader'.source reader'.bytes_left reader'.lines_left lines
          (position text faults here reader) so.has next

      pub too_much : ReadsNext (position text faults here reader) (position text faults later reader') (Err TooMuchSource)
          → Reads (pass_of text faults initial later) (record { lines = lines; fault = Some TooMuchSource })
      too_much next =
          feeds.too_much text faults initial later reader'.source reader'.bytes_left reader'.lines_left lines
          (position text faults here reader) so.has next

      pub too_many : ReadsNext (position text faults here reader) (position text faults later reader') (Err TooManyLines)
          → Reads (pass_of text faults initial later) (record { lines = lines; fault = Some TooManyLines })
      too_many next =
          feeds.too_many text faults initial later reader'.source reader'.bytes_left reader'.lines_left lines
          (position text faults here reader) so.has next

      pub failed : ReadsNext (position text faults here reader) (position text faults later reader') (Err Read)
          → ReadsTill (pass_of text faults initial later) lines
      failed next =
          feeds.failed text faults initial later reader'.source reader'.bytes_left reader'.lines_left lines
          (position text faults here reader) so.has next

      pub given_all : ReadsNext (position text faults here reader) (position text faults later reader') (Ok None)
          → GaveAll text initial later lines
      given_all next =
          how_far.all_given text faults initial later reader'.source reader'.bytes_left reader'.lines_left lines
          (position text faults here reader) so.has next

      pub given_till : ReadsNext (position text faults here reader) (position text faults later reader') (Err Read)
          → GaveTill text initial later lines
      given_till next =
          how_far.till_failure text faults initial later reader'.source reader'.bytes_left reader'.lines_left lines
          (position text faults here reader) so.has next

      pub past_bytes : ReadsNext (position text faults here reader) (position text faults later reader') (Err TooMuchSource)
          → GavePast text initial later lines TooMuchSource
      past_bytes next =
          how_far.past_bytes text faults initial later reader'.source reader'.bytes_left reader'.lines_left lines
          (position text faults here reader) so.has next

      pub past_lines : ReadsNext (position text faults here reader) (position text faults later reader') (Err TooManyLines)
          → GavePast text initial later lines TooManyLines
      past_lines next =
          how_far.past_lines text faults initial later reader'.source reader'.bytes_left reader'.lines_left lines
          (position text faults here reader) so.has next

-- Either pass after the lines that a reader has returned, and what it has read when it ends.
use Rattle.std.proofs.Common.{◌≡◌, ◌∙◌, Bool, true, false, List, [], length, Option, None, Ok, Err, ℕ, refl, sym, ap, subst}
use Rattle.m11_asm_faults.specs.Faults.{of_lines}
use Rattle.m11_base.specs.Feed.{Text}
use Rattle.m11_scan.specs.Line.{SourceLine}
use Rattle.m11_scan.specs.Reader.{LineReading, ReadsNext, position}
use Rattle.m11_scan.specs.declared.fault.LineFault.{LineFault}
use Rattle.m11_scan.specs.declared.fault.LineFault.TheVariants.{Read, TooMuchSource, TooManyLines}
use Rattle.m11_scan_line_laws.specs.Readings.{Reading}
use Rattle.m11_unfold_rules.specs.Stages.{Stage}
use Rattle.m11_asm_rules.specs.Meanings.{Map}
use Rattle.m11_asm_lines.specs.declared.counting.Counting.{Counting}
use Rattle.m11_asm_passes.specs.Lines.{NumberedLine, PassLines}
use Rattle.m11_asm_passes.specs.Reaching as reaching
use Rattle.m11_asm_passes.specs.Reaching.{MayLackMemory}
use Rattle.m11_asm.specs.Extents as extents
use Rattle.m11_asm.specs.Extents.{GivesToEnd, GivesToFault, HaveGiven}
use Rattle.m11_asm.specs.Outcome as outcome
use Rattle.m11_asm.specs.Outcome.{Ends, Unended}
use Rattle.m11_base_writes.specs.Passes.{Pass, pass_of}
use Rattle.m11_asm.specs.SourceRead.{AreLinesRead, SourceRead}
use Rattle.m11_asm.specs.LinesDone.{LineState, LinesDone}
use Rattle.m11_asm.specs.Written.{EndOfSource}
use Rattle.m11_asm.proofs.LinesRead.{SoFar, all_read, begun, given_all, given_till, lines_given, past_bytes, past_lines}

-- ---- after live lines of a source, up to a stage

abbrev ended_at : List SourceLine → Bool → EndOfSource
ended_at source has_end = record { read = length source; has_end = has_end }

module _ (map_ : Map) (counting : Counting) (source : List SourceLine) (lines : List NumberedLine) (stage : Stage)
    (live : PassLines map_ counting source lines stage) (has_ended : Bool) (ended : has_ended ≡ stage.has_ended)
    (needs : has_ended ≡ false → stage.left ≡ []) where
  pub unended_at : has_ended ≡ false → Unended map_ counting source lines
  unended_at is = record { stage = stage; live = live; left = needs is; goes_on = sym ended ∙ is }

  pub ends_by : (reading : Reading) (is_end : Bool) → has_ended ≡ is_end → AreLinesRead reading source is_end
      → Ends map_ counting reading lines (record { read = length source; has_end = is_end })
  ends_by reading true is up = outcome.Ends.AtEnd source up.0 stage up.1 live (sym ended ∙ is) refl
  ends_by reading false is up =
      let P : List SourceLine → Type 0 = λ s. Unended map_ counting s lines in
      outcome.Ends.WithoutEnd (subst P (sym up.0) (unended_at is)) up.1
      (ap (λ (s : List SourceLine). ended_at s false) (sym up.0))

  pub given_to_end : {F : Type 0} (pass : Pass F) (is_end : Bool) → has_ended ≡ is_end → HaveGiven pass source is_end
      → GivesToEnd pass map_ counting lines
  given_to_end pass true is given = extents.GivesToEnd.AtEnd source stage live (sym ended ∙ is) given
  given_to_end pass false is given = extents.GivesToEnd.WithoutEnd source (unended_at is) given

-- if `.END` hasn't become live, nothing of the lines is left to unfold
pub unended_so : (map_ : Map) (counting : Counting) (Done : List NumberedLine → Type 0) (source : List SourceLine) (state : LineState)
    → (stands : LinesDone map_ counting Done source state) → state.has_ended ≡ false → Unended map_ counting source stands.lines
unended_so map_ counting Done source state stands goes =
    unended_at map_ counting source stands.lines state.pass_state.unfolder.stage stands.taken.stands.lines_are state.has_ended stands.ended
    stands.needs goes

-- memory is refused at a stage that these live lines lead to
pub lines_before : (map_ : Map) (counting : Counting) (source : List SourceLine) (lines : List NumberedLine)
    → MayLackMemory map_ counting source lines → (stage : Stage) × PassLines map_ counting source lines stage
lines_before map_ counting source lines (reaching.MayLackMemory.BeforeLine stage live fits grows) = (stage, live)
lines_before map_ counting source lines (reaching.MayLackMemory.AtLine stage after next live fits gives lacks) = (stage, live)

-- ---- over feeds

-- the state of a pass after the lines that the reader has returned
pub record IsAfterSoFar {F : Type 0} (text : F → Option Text) (faults : F → ℕ) (initial here : List F) (reader : LineReading)
    (After : List SourceLine → Type 0) : Type 0 where
  pub source : List SourceLine
  pub read : SoFar text faults initial here reader source
  pub stands : After source

module _ {F : Type 0} (text : F → Option Text) (faults : F → ℕ) (initial here : List F) (reader : LineReading) where
  module _ (After : List SourceLine → Type 0) (has_ended : Bool)
      (so : IsAfterSoFar text faults initial here reader After) where
    -- if `.END` has become live, the pass has read the lines up to that point
    pub taken_to_end : has_ended ≡ true → SourceRead (pass_of text faults initial here) After has_ended
    taken_to_end ends =
        let b = begun text faults initial here reader so.source so.read in
        let P : Bool → Type 0 = λ e. AreLinesRead b.reading so.source e in
        let Q : Bool → Type 0 = λ e. HaveGiven (pass_of text faults initial here) so.source e in
        record {
          reading = b.reading;
          reads = b.reads;
          source = so.source;
          stands = so.stands;
          lines_are_read = subst P (sym ends) (b.more, b.are);
          given = subst Q (sym ends) (lines_given text faults initial here reader so.source so.read);
        }

    -- if `.END` hasn't become live and the reader finds no further line, the pass has read all lines
    pub taken_wholly : has_ended ≡ false → (later : List F) (reader' : LineReading)
        → ReadsNext (position text faults here reader) (position text faults later reader') (Ok None)
        → SourceRead (pass_of text faults initial later) After has_ended
    taken_wholly goes later reader' next =
        let reading : Reading = record { lines = so.source; fault = None } in
        let P : Bool → Type 0 = λ e. AreLinesRead reading so.source e in
        let Q : Bool → Type 0 = λ e. HaveGiven (pass_of text faults initial later) so.source e in
        record {
          reading = reading;
          reads = all_read text faults initial here reader so.source so.read later reader' next;
          source = so.source;
          stands = so.stands;
          lines_are_read = subst P (sym goes) (refl, refl);
          given = subst Q (sym goes) (given_all text faults initial here reader so.source so.read later reader' next);
        }

  -- if reading fails, the feeds were read no further than the fault says
  pub given_to_fault : (map_ : Map) (counting : Counting) (source : List SourceLine) (lines : List NumberedLine)
      → SoFar text faults initial here reader source → Unended map_ counting source lines
      → (later : List F) (reader' : LineReading) (came : LineFault)
      → ReadsNext (position text faults here reader) (position text faults later reader') (Err came)
      → GivesToFault (pass_of text faults initial later) map_ counting (of_lines came)
  given_to_fault map_ counting source lines so unended later reader' Read next =
      (source, lines, unended, given_till text faults initial here reader source so later reader' next)
  given_to_fault map_ counting source lines so unended later reader' TooMuchSource next =
      (source, lines, unended, TooMuchSource, past_bytes text faults initial here reader source so later reader' next)
  given_to_fault map_ counting source lines so unended later reader' TooManyLines next =
      (source, lines, unended, TooManyLines, past_lines text faults initial here reader source so later reader' next)

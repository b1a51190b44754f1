-- The first pass over feeds, line by line.
use Rattle.std.proofs.Common.{◌≡◌, ◌∙◌, true, false, List, [], ◌∷◌, ◌++◌, ℕ, length, Option, Some, None, Result, Ok, Err, IfOk, IsErrAnd, refl, sym, subst, inl, inr, arith}
use Rattle.std.specs.Result.{result_err}
use Rattle.m11_asm_faults.specs.Faults.{of_lines}
use Rattle.m11_asm_faults.specs.declared.fault.AsmFault.{AsmFault}
use Rattle.m11_asm_faults.specs.declared.fault.AsmFault.TheVariants as fault
use Rattle.m11_base.specs.Feed.{NoneFailed, Text}
use Rattle.m11_asm.specs.First.{AreFactsOf, FirstFails, FirstAfter, FirstState, FirstReadsLine, Symbols, line_state, symbols_of}
use Rattle.m11_asm.proofs.Counting.{one_longer}
use Rattle.m11_scan.specs.Line.{SourceLine}
use Rattle.m11_scan.specs.Lines.{most_lines}
use Rattle.m11_scan.specs.Reader.{LineReading, ReadsNext, position, unread}
use Rattle.m11_scan.specs.declared.fault.LineFault.{LineFault}
use Rattle.m11_scan.specs.declared.fault.LineFault.TheVariants.{Read, TooMuchSource, TooManyLines}
use Rattle.m11_asm_rules.specs.Meanings.{empty_map}
use Rattle.m11_scan_line_laws.specs.Extents.{GaveLines}
use Rattle.m11_asm.specs.Extents as extents
use Rattle.m11_asm.specs.Extents.{GivesToEnd}
use Rattle.m11_asm.specs.FirstReading.{FirstStops, FirstPassDone, GivesSymbols, ReadsLines}
use Rattle.m11_asm.specs.Outcome as outcome
use Rattle.m11_asm.specs.Outcome.{Unended}
use Rattle.m11_base_writes.specs.Passes.{Pass, pass_of}
use Rattle.m11_asm.specs.Passes.{ReadsFirst}
use Rattle.m11_asm.proofs.LinesRead.{Begun, SoFar, begun, failed, few_read, lines_given, one_more, reader_begins, too_many, too_much}
use Rattle.m11_asm.proofs.LinesTaken.{IsAfterSoFar, ends_by, given_to_end, given_to_fault, taken_to_end, taken_wholly, unended_so}
use Rattle.m11_asm_lines.specs.Counting.{none_used}

-- the state of the pass after the lines that the reader has returned
abbrev pub FirstSoFar : {F : Type 0} → (F → Option Text) → (F → ℕ) → List F → List F → LineReading → FirstState → Type 0
FirstSoFar text faults initial here reader first =
    IsAfterSoFar text faults initial here reader (λ source. FirstAfter source first)

module _ {F : Type 0} (text : F → Option Text) (faults : F → ℕ) (initial here : List F) (reader : LineReading) (first : FirstState)
    (so : FirstSoFar text faults initial here reader first) where
  -- if `.END` has become live, the pass is done with all lines that it reads
  pub first_ended : first.has_ended ≡ true → FirstPassDone (pass_of text faults initial here) first
  first_ended ends = taken_to_end text faults initial here reader (λ source. FirstAfter source first) first.has_ended so ends

  module _ (goes : first.has_ended ≡ false) (later : List F) (reader' : LineReading) where
    unended : Unended empty_map none_used so.source so.stands.lines
    unended = unended_so empty_map none_used (AreFactsOf first.facts) so.source (line_state first) so.stands goes

    pub first_read : ReadsNext (position text faults here reader) (position text faults later reader') (Ok None)
        → FirstPassDone (pass_of text faults initial later) first
    first_read next =
        taken_wholly text faults initial here reader (λ source. FirstAfter source first) first.has_ended so goes later reader' next

    reads_so : (fault : LineFault) → ReadsNext (position text faults here reader) (position text faults later reader') (Err fault)
        → ReadsFirst (pass_of text faults initial later) (Err (of_lines fault))
    reads_so Read next =
        (so.source, failed text faults initial here reader so.source so.read later reader' next, so.stands.lines, unended)
    reads_so TooMuchSource next = (
      record { lines = so.source; fault = Some TooMuchSource },
      too_much text faults initial here reader so.source so.read later reader' next,
      so.stands.lines,
      outcome.Refuses.AtReading TooMuchSource refl refl unended,
    )
    reads_so TooManyLines next = (
      record { lines = so.source; fault = Some TooManyLines },
      too_many text faults initial here reader so.source so.read later reader' next,
      so.stands.lines,
      outcome.Refuses.AtReading TooManyLines refl refl unended,
    )

    pub first_stops : (came : LineFault) (stopped : AsmFault) → stopped ≡ of_lines came
        → ReadsNext (position text faults here reader) (position text faults later reader') (Err came)
        → FirstStops (pass_of text faults initial later) stopped
    first_stops came stopped is next =
        let P : AsmFault → Type 0 = λ f. FirstStops (pass_of text faults initial later) f in
        subst P (sym is) (
          reads_so came next,
          given_to_fault text faults initial here reader empty_map none_used so.source so.stands.lines so.read unended later reader'
              came next,
        )

    module _ (line : SourceLine) (next : ReadsNext (position text faults here reader) (position text faults later reader') (Ok (Some line)))
        (sound : reader'.fault ≡ None) where
      more : SoFar text faults initial later reader' (so.source ++ line ∷ [])
      more = one_more text faults initial here reader so.source so.read later reader' line next sound

      begun_more : Begun (pass_of text faults initial later) (so.source ++ line ∷ [])
      begun_more = begun text faults initial later reader' (so.source ++ line ∷ []) more

      given_more : GaveLines text initial later (so.source ++ line ∷ [])
      given_more = lines_given text faults initial later reader' (so.source ++ line ∷ []) more

      pub first_goes_on : (first' : FirstState) → FirstReadsLine so.source line first first' (Ok tt)
          → FirstSoFar text faults initial later reader' first'
      first_goes_on first' (inl idle) = absurd (true_false (sym idle.0 ∙ goes))
        where
          true_false : true ≡ false → ⊥
          true_false e = cc
      first_goes_on first' (inr took) = record { source = so.source ++ line ∷ []; read = more; stands = took.1 }

      -- a reader returns no line past the limit
      too_long : first.read ≡ most_lines → ⊥
      too_long full =
          let few = few_read text faults initial later reader' (so.source ++ line ∷ []) more in
          let longer = one_longer so.source line in
          let read = so.stands.read in
          omega (arith, few, longer, read, full)

      refused_so : (stopped : AsmFault) → FirstFails (so.source ++ line ∷ []) first stopped
          → FirstStops (pass_of text faults initial later) stopped
      refused_so fault.NoMemory fails = (
        begun_more.reads.0,
        extents.GivesToLack.InLine (so.source ++ line ∷ []) fails.1 fails.2 given_more,
      )
      refused_so fault.Read fails = absurd fails.2
      refused_so (fault.Write output) fails = absurd fails.2
      refused_so fault.TooMuchSource fails = absurd (too_long fails.1)
      refused_so stopped fails = (
        (
          begun_more.reading,
          begun_more.reads,
          fails.1,
          outcome.Refuses.AtLimit (so.source ++ line ∷ []) begun_more.more stopped begun_more.are fails.2 refl,
        ),
        (so.source ++ line ∷ [], fails.1, fails.2, given_more),
      )

      pub first_refuses : (first' : FirstState) (stopped : AsmFault) (result : Result (Unit {0}) AsmFault)
          → FirstReadsLine so.source line first first' (Err stopped) → IsErrAnd result (λ f. f ≡ stopped)
          → ReadsLines (pass_of text faults initial later) first' result
      first_refuses first' stopped (Ok done) fails is = absurd is
      first_refuses first' stopped (Err other) fails is =
          let P : AsmFault → Type 0 = λ f. FirstStops (pass_of text faults initial later) f in
          subst P (sym is) (refused_so stopped fails)

-- ---- before the first line, and after the last one

none_failed : {F : Type 0} (faults : F → ℕ) (feeds : List F) → NoneFailed faults feeds feeds
none_failed faults [] = tt
none_failed faults (feed ∷ feeds) = (refl, none_failed faults feeds)

-- if memory is refused before the first line, the pass ends with that fault, and reads nothing
pub none_given : {F : Type 0} (text : F → Option Text) (faults : F → ℕ) (feeds : List F) (result : Result Symbols AsmFault)
    → IsErrAnd result (λ e. e ≡ fault.NoMemory) → GivesSymbols (pass_of text faults feeds feeds) result
none_given text faults feeds (Ok symbols) is = absurd is
none_given text faults feeds (Err stopped) is =
    let P : AsmFault → Type 0 = λ f. FirstStops (pass_of text faults feeds feeds) f in
    subst P (sym is) (
      none_failed faults feeds,
      extents.GivesToLack.AtStart (lines_given text faults feeds feeds unread [] (reader_begins text faults feeds unread refl)),
    )

no_fault : (first : FirstState) (came : AsmFault) → first.fault ≡ None → first.fault ≡ Some came → ⊥
no_fault first came none some = none_some (sym none ∙ some)
  where
    none_some : None ≡ Some came → ⊥
    none_some e = cc

pub all_given : {F : Type 0} (pass : Pass F) (first : FirstState) → FirstPassDone pass first → (result : Result Symbols AsmFault)
    → IfOk result (λ symbols. symbols ≡ symbols_of first) → result_err result ≡ first.fault → GivesSymbols pass result
all_given pass first taken (Ok symbols) is ends = (first, taken, is)
all_given pass first taken (Err stopped) is ends = absurd (no_fault first stopped taken.stands.goes_on (sym ends))

-- a first pass that ends without a fault has read the source of these live lines
module _ {F : Type 0} (pass : Pass F) (first : FirstState) (taken : FirstPassDone pass first) where
  pub first_reads : ReadsFirst pass (Ok taken.stands.lines)
  first_reads = (
    taken.reading,
    taken.reads,
    record { read = length taken.source; has_end = first.has_ended },
    ends_by empty_map none_used taken.source taken.stands.lines first.pass_state.unfolder.stage taken.stands.taken.stands.lines_are
        first.has_ended taken.stands.ended taken.stands.needs taken.reading first.has_ended refl taken.lines_are_read,
  )

  pub first_gives : GivesToEnd pass empty_map none_used taken.stands.lines
  first_gives =
      given_to_end empty_map none_used taken.source taken.stands.lines first.pass_state.unfolder.stage taken.stands.taken.stands.lines_are
      first.has_ended taken.stands.ended taken.stands.needs pass first.has_ended refl taken.given

-- The second pass over feeds, line by line.
use Rattle.std.proofs.Common.{◌≡◌, ◌∙◌, ℕ, ◌+◌, true, false, List, [], ◌∷◌, ◌++◌, length, Option, Some, None, Result, Ok, Err, IfOk, IsErrAnd, refl, sym, ap, subst, inl, inr, arith, append-nil}
use Rattle.m11_asm_faults.specs.Faults.{of_lines}
use Rattle.std.specs.Prelude.{OnOk}
use Rattle.m11_asm_outputs.specs.Object.{AllFit, object_contents}
use Rattle.m11_asm_faults.specs.declared.fault.AsmFault.{AsmFault}
use Rattle.m11_asm_faults.specs.declared.fault.AsmFault.TheVariants as fault
use Rattle.m11_asm_outputs.specs.Outputs.{StopsBetween, StopsIn, Writes, assembly}
use Rattle.m11_base_writes.specs.Outputs.{AreFlushed, Outputs, Write}
use Rattle.m11_base.specs.Feed.{Text}
use Rattle.m11_scan.specs.Line.{SourceLine}
use Rattle.m11_scan.specs.Lines.{most_lines}
use Rattle.m11_scan.specs.Reader.{LineReading, ReadsNext, position, unread}
use Rattle.m11_scan.specs.declared.fault.LineFault.{LineFault}
use Rattle.m11_scan.specs.declared.fault.LineFault.TheVariants.{Read, TooMuchSource, TooManyLines}
use Rattle.m11_asm_passes.specs.Lines as lines
use Rattle.m11_scan_line_laws.specs.Extents.{GaveLines}
use Rattle.m11_asm.specs.Program.{Program}
use Rattle.m11_asm.specs.Second as second
use Rattle.m11_asm.specs.Second.{SecondEnds, SecondFails, SecondAfter, SecondState, SecondReadsLine, StopsAmong, StopsForMemory, Wrote, ended_with, line_state}
use Rattle.m11_asm.specs.Written.{EndOfSource, flagged_count, pieces_in, program_writes, written}
use Rattle.m11_asm.specs.declared.done.AsmDone.{AsmDone}
use Rattle.m11_unfold_rules.specs.Stages.{start}
use Rattle.m11_base_writes.proofs.Writing.{refused_between}
use Rattle.m11_asm.specs.Extents as extents
use Rattle.m11_asm.specs.Extents.{GivesToEnd, GivesToFault, SecondGives}
use Rattle.m11_asm.specs.Outcome as outcome
use Rattle.m11_asm.specs.Outcome.{Ends, Unended}
use Rattle.m11_asm.specs.Passes as passes
use Rattle.m11_base_writes.specs.Passes.{Pass, pass_of}
use Rattle.m11_asm.specs.Passes.{ReadsSecond, StopsAmongWrites}
use Rattle.m11_asm.specs.SecondReading.{PutsAll, SecondPassDone}
use Rattle.m11_asm.proofs.LinesRead.{Begun, SoFar, begun, failed, few_read, lines_given, one_more, reader_begins, too_many, too_much}
use Rattle.m11_asm.proofs.LinesTaken.{IsAfterSoFar, ends_by, given_to_end, given_to_fault, lines_before, taken_to_end, taken_wholly, unended_so}
use Rattle.m11_asm.specs.LinesDone.{LinesDone}
use Rattle.m11_asm_lines.specs.declared.counting.Counting.TheVariants.{Definitions}

-- if memory is refused, the writes end between two of those of live lines
stops_between : (program : Program) (source : List SourceLine) (old new : Outputs) → StopsForMemory program source old new
    → StopsAmong (StopsBetween old new) program source
stops_between program source old new (second.StopsForMemory.BeforeLine lines may_lack gains) =
    let at = lines_before program.map Definitions source lines may_lack in record {
      lines = lines;
      stage = at.0;
      live = at.1;
      stops = record { done = written program lines; more = []; split = sym (append-nil (written program lines)); gains = gains };
    }
stops_between program source old new (second.StopsForMemory.InLine lines next stage may_lack live stops) =
    record { lines = lines ++ next ∷ []; stage = stage; live = live; stops = stops }

-- the state of the pass after the lines that the reader has returned
abbrev pub SecondSoFar : {F : Type 0} → (F → Option Text) → (F → ℕ) → List F → List F → LineReading
    → Program → Outputs → Outputs → SecondState → Type 0
SecondSoFar text faults initial here reader program old now second =
    IsAfterSoFar text faults initial here reader (λ source. SecondAfter program source old now second)

module _ {F : Type 0} (text : F → Option Text) (faults : F → ℕ) (program : Program) (old : Outputs) where
  -- if memory is refused before the first line, nothing is read or written
  none_begins : (feeds : List F) → PutsAll (pass_of text faults feeds feeds) program old old (Err fault.NoMemory)
  none_begins feeds =
      let none = reader_begins text faults feeds unread refl in
      let b = begun text faults feeds feeds unread [] none in (
        (
          b.reading,
          b.reads,
          record {
            writes = written program [];
            are = passes.AreWrites.SoFar [] b.more [] (start []) b.are lines.PassLines.Begins;
            stops = refused_between assembly old (written program []);
          },
        ),
        extents.LacksWriting.AtStart (lines_given text faults feeds feeds unread [] none) refl,
      )

  pub none_read : (feeds : List F) (result : Result AsmDone AsmFault) → IsErrAnd result (λ e. e ≡ fault.NoMemory)
      → PutsAll (pass_of text faults feeds feeds) program old old result
  none_read feeds (Ok done) is = absurd is
  none_read feeds (Err stopped) is =
      let P : AsmFault → Type 0 = λ f. PutsAll (pass_of text faults feeds feeds) program old old (Err f) in
      subst P (sym is) (none_begins feeds)

  module _ (initial here : List F) (reader : LineReading) (now : Outputs) (second : SecondState)
      (so : SecondSoFar text faults initial here reader program old now second) where
    -- if `.END` has become live, the pass is done with all lines that it reads
    pub second_ended : second.has_ended ≡ true → SecondPassDone (pass_of text faults initial here) program old now second
    second_ended ends =
        taken_to_end text faults initial here reader (λ source. SecondAfter program source old now second) second.has_ended so ends

    module _ (goes : second.has_ended ≡ false) (later : List F) (reader' : LineReading) where
      abbrev stands : LinesDone program.map Definitions (Wrote program old now second.writing) so.source (line_state second)
      stands = so.stands.stands

      unended : Unended program.map Definitions so.source stands.lines
      unended =
          unended_so program.map Definitions (Wrote program old now second.writing) so.source (line_state second) stands goes

      pub second_read : ReadsNext (position text faults here reader) (position text faults later reader') (Ok None)
          → SecondPassDone (pass_of text faults initial later) program old now second
      second_read next =
          taken_wholly text faults initial here reader (λ source. SecondAfter program source old now second) second.has_ended so goes
          later reader' next

      reads_so : (came : LineFault)
          → ReadsNext (position text faults here reader) (position text faults later reader') (Err came)
          → ReadsSecond (pass_of text faults initial later) program old now (Err (of_lines came))
      reads_so Read next = (
        so.source,
        failed text faults initial here reader so.source so.read later reader' next,
        stands.lines,
        unended,
        stands.taken.done.gains,
      )
      reads_so TooMuchSource next = (
        record { lines = so.source; fault = Some TooMuchSource },
        too_much text faults initial here reader so.source so.read later reader' next,
        stands.lines,
        outcome.Refuses.AtReading TooMuchSource refl refl unended,
        stands.taken.done.gains,
      )
      reads_so TooManyLines next = (
        record { lines = so.source; fault = Some TooManyLines },
        too_many text faults initial here reader so.source so.read later reader' next,
        stands.lines,
        outcome.Refuses.AtReading TooManyLines refl refl unended,
        stands.taken.done.gains,
      )

      -- a fault of reading is neither a failed write nor a lack of memory
      gives_so : (came : LineFault) → GivesToFault (pass_of text faults initial later) program.map Definitions (of_lines came)
          → SecondGives (pass_of text faults initial later) program old now (Err (of_lines came))
      gives_so Read gives = gives
      gives_so TooMuchSource gives = gives
      gives_so TooManyLines gives = gives

      pub second_stops : (came : LineFault) (stopped : AsmFault) → stopped ≡ of_lines came
          → ReadsNext (position text faults here reader) (position text faults later reader') (Err came)
          → PutsAll (pass_of text faults initial later) program old now (Err stopped)
      second_stops came stopped is next =
          let P : AsmFault → Type 0 = λ f. PutsAll (pass_of text faults initial later) program old now (Err f) in
          subst P (sym is) (
            reads_so came next,
            gives_so came
                (given_to_fault text faults initial here reader program.map Definitions so.source stands.lines so.read unended later reader'
                came next),
          )

      module _ (line : SourceLine) (next : ReadsNext (position text faults here reader) (position text faults later reader') (Ok (Some line)))
          (sound : reader'.fault ≡ None) (new : Outputs) (second' : SecondState) where
        abbrev all : List SourceLine
        all = so.source ++ line ∷ []

        more : SoFar text faults initial later reader' all
        more = one_more text faults initial here reader so.source so.read later reader' line next sound

        begun_more : Begun (pass_of text faults initial later) all
        begun_more = begun text faults initial later reader' all more

        given_more : GaveLines text initial later all
        given_more = lines_given text faults initial later reader' all more

        pub second_goes_on : SecondReadsLine program so.source line old (record { before = now; now = new; old = second; new = second' }) (Ok tt)
            → SecondSoFar text faults initial later reader' program old new second'
        second_goes_on (inl idle) = absurd (true_false (sym idle.ended ∙ goes))
          where
            true_false : true ≡ false → ⊥
            true_false e = cc
        second_goes_on (inr took) = record { source = all; read = more; stands = took.1 }

        among : (Stop : List Write → Type 0) → StopsAmong Stop program all → StopsAmongWrites Stop program begun_more.reading
        among Stop s = record {
          writes = written program s.lines;
          are = passes.AreWrites.SoFar all begun_more.more s.lines s.stage begun_more.are s.live;
          stops = s.stops;
        }

        too_long : length all ≡ most_lines + 1 → ⊥
        too_long many = let few = few_read text faults initial later reader' all more in omega (arith, many, few)

        fails_so : (stopped : AsmFault) → SecondFails program all old new stopped
            → PutsAll (pass_of text faults initial later) program old new (Err stopped)
        fails_so fault.Read s = absurd s
        fails_so (fault.Write output) s = (
          (begun_more.reading, begun_more.reads, among (StopsIn output old new) s),
          extents.StopsWriting.InLine all s given_more,
        )
        fails_so fault.NoMemory s = (
          (begun_more.reading, begun_more.reads, among (StopsBetween old new) (stops_between program all old new s)),
          extents.LacksWriting.InLine all s given_more,
        )
        fails_so fault.TooMuchSource s = absurd (too_long s.too_many)
        fails_so stopped s = (
          (
            begun_more.reading,
            begun_more.reads,
            s.lines,
            outcome.Refuses.AtLimit all begun_more.more stopped begun_more.are s.exceeds refl,
            s.gains,
          ),
          (all, s.lines, s.exceeds, given_more),
        )

        pub second_refuses : (stopped : AsmFault) → SecondReadsLine program so.source line old (record { before = now; now = new; old = second; new = second' }) (Err stopped)
            → PutsAll (pass_of text faults initial later) program old new (Err stopped)
        second_refuses stopped s = fails_so stopped s.1

  -- ---- the end

  module _ (pass : Pass F) (now new : Outputs) (second : SecondState) (taken : SecondPassDone pass program old now second)
      (result : Result AsmDone AsmFault) (ends : SecondEnds program taken.source old new second result) where
    all_ends : Ends program.map Definitions taken.reading ends.lines (ended_with second)
    all_ends =
        let at : ℕ → EndOfSource = λ n. record { read = n; has_end = second.has_ended } in
        let P : EndOfSource → Type 0 = λ e. Ends program.map Definitions taken.reading ends.lines e in
        subst P (sym (ap at ends.read))
        (ends_by program.map Definitions taken.source ends.lines ends.stage ends.live second.has_ended ends.ended ends.needs
        taken.reading second.has_ended refl taken.lines_are_read)

    among_all : (Stop : List Write → Type 0) → Stop (program_writes program ends.lines (ended_with second))
        → StopsAmongWrites Stop program taken.reading
    among_all Stop s = record {
      writes = program_writes program ends.lines (ended_with second);
      are = passes.AreWrites.All ends.lines (ended_with second) all_ends;
      stops = s;
    }

    gives_to_end : GivesToEnd pass program.map Definitions ends.lines
    gives_to_end =
        given_to_end program.map Definitions taken.source ends.lines ends.stage ends.live second.has_ended ends.ended ends.needs pass
        second.has_ended refl taken.given

    ends_so : (result : Result AsmDone AsmFault) → Writes old new (program_writes program ends.lines (ended_with second)) result
        → IfOk result (λ done. done.flagged ≡ flagged_count program ends.lines second.has_ended)
        → OnOk result (AllFit (object_contents program.rows (pieces_in program.map ends.lines)))
        → OnOk result (AreFlushed new) → PutsAll pass program old new result
    ends_so (Ok done) gains count fit flushed = (
      (
        taken.reading,
        taken.reads,
        record {
          lines = ends.lines;
          ended = ended_with second;
          ends = all_ends;
          gains = gains;
          flushed = flushed;
          count = count;
          fit = fit;
        },
      ),
      (ends.lines, gives_to_end),
    )
    ends_so (Err (fault.Write output)) stops count fit flushed = (
      (taken.reading, taken.reads, among_all (StopsIn output old new) stops),
      extents.StopsWriting.AtEnd taken.reading ends.lines (ended_with second) taken.reads all_ends gives_to_end stops,
    )
    ends_so (Err fault.NoMemory) stops count fit flushed = (
      (taken.reading, taken.reads, among_all (StopsBetween old new) stops),
      extents.LacksWriting.AtEnd taken.reading ends.lines (ended_with second) taken.reads all_ends gives_to_end stops,
    )
    ends_so (Err other) stops count fit flushed = absurd stops

    pub second_ends : PutsAll pass program old new result
    second_ends = ends_so result ends.writes ends.count ends.fit ends.flushed

-- A run over known sources writes their outcome, or a beginning of it.
use Rattle.std.proofs.Common.{◌≡◌, ◌∙◌, List, [], ◌∷◌, ◌++◌, ℕ, append_assoc, append-nil, Option, None, Result, Ok, Err, inl, inr, refl, sym, ap, ap₂, subst}
use Rattle.m11_asm.specs.Outcome.{Assembled, Ends, Outcome, Refused, Refuses}
use Rattle.m11_asm.specs.Passes as passes
use Rattle.m11_base_writes.specs.Passes.{AreKnown, Pass, pass_of}
use Rattle.m11_asm.specs.Passes.{AreWrites, ReadsFirst, ReadsSecond, StopsAmongWrites}
use Rattle.m11_asm.specs.Program.{Program, program_of}
use Rattle.m11_asm.specs.Run.{AsmRuns}
use Rattle.m11_asm.specs.Written.{EndOfSource, flagged_count, head_before, last_writes, line_writes, program_writes, written, written_after}
use Rattle.m11_asm.specs.declared.done.AsmDone.{AsmDone}
use Rattle.m11_asm_faults.specs.declared.fault.AsmFault.{AsmFault}
use Rattle.m11_asm_faults.specs.declared.fault.AsmFault.TheVariants as fault
use Rattle.m11_asm_outputs.specs.Outputs.{Gains, Stops, StopsBetween, StopsIn, assembly}
use Rattle.m11_base_writes.specs.Outputs.{AreFlushed, Outputs, Write}
use Rattle.m11_base.specs.Devices.{Bytes}
use Rattle.m11_base.specs.Feed.{Text}
use Rattle.m11_scan.specs.Line.{SourceLine}
use Rattle.m11_asm_passes.specs.Beginnings.{BeginWith}
use Rattle.m11_asm_passes.specs.Ends.{EndsAfter}
use Rattle.m11_asm_passes.specs.Lines.{NumberedLine, PassLines, givens}
use Rattle.m11_asm_rules.specs.Meanings.{Map, empty_map}
use Rattle.m11_scan_line_laws.specs.Readings.{Reading, reading_of}
use Rattle.m11_unfold_rules.specs.Stages.{Stage}
use Rattle.m11_base_writes.specs.Writes.{LeavesBeginnings, gained}
use Rattle.m11_base_writes.proofs.Writing.{beginnings_left, gained-append, keeps, stops_before}
use Rattle.m11_asm_outcome_laws.specs.Beginnings.{IsDecided, IsRefusal, MayStop}
use Rattle.m11_asm_outcome_laws.specs.OneText.{IsDecidedByFirst, program_after}
use Rattle.m11_asm_outcome_laws.specs.Sources.{AssembleTo}
use Rattle.m11_asm_outcome_laws.proofs.OnePass.{EndsOnce, EndsOrExceeds, EndsSo, ExceedsOnce, ends_so, not_both, one_end, one_refusal}
use Rattle.m11_asm_outcome_laws.proofs.OneText.{EndAlike, PassesNone, never, same_end, told_by_first}
use Rattle.m11_asm_outcome_laws.proofs.SourcesRead.{fail_begins, same_reading}
use Rattle.m11_asm_lines.specs.declared.counting.Counting.{Counting}
use Rattle.m11_asm_lines.specs.declared.counting.Counting.TheVariants.{Definitions}
use Rattle.m11_asm_lines.specs.Counting.{none_used}

-- facts about passes over the same lines
abbrev pub BeginAlike : Type 0
BeginAlike = (one other : Map) (counting others : Counting) (all source read rest : List SourceLine) (lines later : List NumberedLine)
    (stage after : Stage) → EndsAfter one counting all source lines stage → PassLines other others read later after
    → read ++ rest ≡ all → BeginWith lines later

-- ---- the writes of some lines are a beginning of those of all

abbrev Begins : List Write → List Write → Type 0
Begins all some = (more : List Write) × (all ≡ some ++ more)

after_both : (program : Program) (before some more : List NumberedLine) → written_after program before (some ++ more)
    ≡ written_after program before some ++ written_after program (before ++ some) more
after_both program before [] more =
    ap (λ (ls : List NumberedLine). written_after program ls more) (sym (append-nil before))
after_both program before (line ∷ some) more =
    let here = head_before program before ++ line_writes program before line in
    ap (λ (ws : List Write). here ++ ws) (after_both program (before ++ line ∷ []) some more)
    ∙ sym (append_assoc here (written_after program (before ++ line ∷ []) some)
    (written_after program ((before ++ line ∷ []) ++ some) more))
    ∙ ap (λ (ls : List NumberedLine). written_after program before (line ∷ some) ++ written_after program ls more)
    (append_assoc before (line ∷ []) some)

written_both : (program : Program) (some more : List NumberedLine)
    → written program (some ++ more) ≡ written program some ++ written_after program some more
unfolding written
written_both program some more = after_both program [] some more

written_begins : (program : Program) (lines some : List NumberedLine) (ended : EndOfSource) → BeginWith lines some
    → Begins (program_writes program lines ended) (written program some)
written_begins program lines some ended (more, split) =
    let last = last_writes program lines ended in (
      written_after program some more ++ last,
      ap (λ (ls : List NumberedLine). written program ls ++ last) split
          ∙ ap (λ (ws : List Write). ws ++ last) (written_both program some more)
          ∙ append_assoc (written program some) (written_after program some more) last,
    )

-- ---- what was written is a beginning

module _ (old new : Outputs) (all : List Write) where
  abbrev Begun : Type 0
  Begun = LeavesBeginnings assembly old new all

  all_begun : (some : List Write) → Begins all some → Gains old new some → Begun
  all_begun some (more, split) gains = λ output. (
    gained assembly output some,
    gained assembly output more,
    ap (gained assembly output) split ∙ gained-append assembly output some more,
    gains.texts output,
  )

  stopped_begun : (some : List Write) (stopped : AsmFault) → Begins all some → Stops old new some stopped → Begun
  stopped_begun some stopped (more, split) stops =
      let P : List Write → Type 0 = λ ws. LeavesBeginnings assembly old new ws in
      subst P (sym split)
      (beginnings_left assembly old new (some ++ more) stopped (stops_before assembly old new some more stopped stops))

  nothing_begun : new ≡ old → Begun
  nothing_begun same =
      let P : Outputs → Type 0 = λ now. LeavesBeginnings assembly old now all in
      subst P (sym same) (λ output. ([], gained assembly output all, refl, keeps (old output).text))

-- ---- the passes of a run

module _ (once : EndsOnce) (limit_once : ExceedsOnce) (either : EndsOrExceeds) (alike : EndAlike) (begins : BeginAlike)
    (passes_none : PassesNone) {F : Type 0} (text : F → Option Text) (faults : F → ℕ) (sources : List Bytes) where
  abbrev reading : Reading
  reading = reading_of sources

  module _ (lines : List NumberedLine) (ended : EndOfSource) (ends : Ends empty_map none_used reading lines ended) (old new : Outputs) where
    abbrev program : Program
    program = program_after lines

    abbrev all : List Write
    all = program_writes program lines ended

    abbrev Stopped : AsmFault → Type 0
    Stopped stopped = MayStop stopped × LeavesBeginnings assembly old new all

    first : EndsSo empty_map none_used reading lines ended
    first = ends_so empty_map none_used reading lines ended ends

    lines_begin : (source more : List SourceLine) (others : List NumberedLine) (stage : Stage) → reading.lines ≡ source ++ more
        → PassLines program.map Definitions source others stage → Begins all (written program others)
    lines_begin source more others stage whole live =
        written_begins program lines others ended
        (begins empty_map program.map none_used Definitions reading.lines first.source source more lines others first.stage stage
        first.after live (sym whole))

    all_alike : (others : List NumberedLine) (end : EndOfSource) → Ends program.map Definitions reading others end
        → all ≡ program_writes program others end
    all_alike others end ends' =
        let same = same_end alike passes_none reading lines ended ends others end ends' in
        ap₂ (λ (ls : List NumberedLine) (e : EndOfSource). program_writes program ls e) same.0 same.1

    writes_begin : (some : List Write) → AreWrites program reading some → Begins all some
    writes_begin _ (passes.AreWrites.SoFar source more others stage whole live) = lines_begin source more others stage whole live
    writes_begin _ (passes.AreWrites.All others end ends') =
        ([], all_alike others end ends' ∙ sym (append-nil (program_writes program others end)))

    stop_begun : (stopped : AsmFault) (Stop : List Write → Type 0)
        → ((some : List Write) → Stop some → Stops old new some stopped)
        → (read : Reading) → read ≡ reading → StopsAmongWrites Stop program read → LeavesBeginnings assembly old new all
    stop_begun stopped Stop are_stops read same among =
        let here = subst (λ (r : Reading). AreWrites program r among.writes) same among.are in
        stopped_begun old new all among.writes stopped (writes_begin among.writes here) (are_stops among.writes among.stops)

    module _ (feeds feeds' : List F) (known : AreKnown text feeds sources) where
      abbrev second : Pass F
      second = pass_of text faults feeds feeds'

      -- if the second pass stops, a feed or an output failed, or memory was refused
      second_stops : (stopped : AsmFault) → ReadsSecond second program old new (Err stopped) → Stopped stopped
      second_stops fault.Read (source, fails, others, unended, gains) =
          let on = fail_begins text faults feeds feeds' sources (record { lines = source; fault = None }) known fails in (
            tt,
            all_begun old new all (written program others)
                (lines_begin source on.0 others unended.stage on.1 unended.live) gains,
          )
      second_stops (fault.Write output) (read, reads, among) = (
        tt,
        stop_begun (fault.Write output) (StopsIn output old new) (λ some stops. stops) read
            (same_reading text faults feeds feeds' sources read known reads) among,
      )
      second_stops fault.NoMemory (read, reads, among) = (
        tt,
        stop_begun fault.NoMemory (StopsBetween old new) (λ some stops. stops) read
            (same_reading text faults feeds feeds' sources read known reads) among,
      )
      second_stops stopped h =
          let same = same_reading text faults feeds feeds' sources h.0 known h.1 in
          absurd (never alike passes_none reading lines ended ends h.2 stopped
          (subst (λ (r : Reading). Refuses program.map Definitions r h.2 stopped) same h.3))

      second_writes : (done : AsmDone) → ReadsSecond second program old new (Ok done)
          → Gains old new all × (done.flagged ≡ flagged_count program lines ended.has_end) × AreFlushed new
      second_writes done (read, reads, h) =
          let same = same_reading text faults feeds feeds' sources read known reads in
          let ends' = subst (λ (r : Reading). Ends program.map Definitions r h.lines h.ended) same h.ends in
          let alike' = same_end alike passes_none reading lines ended ends h.lines h.ended ends' in (
            subst (λ (ws : List Write). Gains old new ws) (sym (all_alike h.lines h.ended ends')) h.gains,
            h.count ∙ sym (ap₂ (λ (ls : List NumberedLine) (e : EndOfSource). flagged_count program ls e.has_end) alike'.0 alike'.1),
            h.flushed,
          )

    module _ (feeds feeds' : List F) (known : AreKnown text feeds sources) where
      first_stops : (stopped : AsmFault) → ReadsFirst (pass_of text faults feeds feeds') (Err stopped) → new ≡ old
          → Stopped stopped
      first_stops fault.Read h same = (tt, nothing_begun old new all same)
      first_stops (fault.Write output) h same = absurd h
      first_stops fault.NoMemory h same = (tt, nothing_begun old new all same)
      first_stops stopped h same =
          let here = same_reading text faults feeds feeds' sources h.0 known h.1 in
          absurd (not_both once limit_once either empty_map none_used reading lines h.2 ended stopped ends
          (subst (λ (r : Reading). Refuses empty_map none_used r h.2 stopped) here h.3))

      -- the live lines of the first pass are those of the sources
      same_lines : (others : List NumberedLine) → ReadsFirst (pass_of text faults feeds feeds') (Ok others) → others ≡ lines
      same_lines others (read, reads, end, ends') =
          let here = same_reading text faults feeds feeds' sources read known reads in
          let same = one_end once limit_once either empty_map none_used reading lines others ended end ends
          (subst (λ (r : Reading). Ends empty_map none_used r others end) here ends') in sym same.0

  -- ---- sources that are refused

  module _ (refused : AsmFault) (lines : List NumberedLine) (refuses : Refuses empty_map none_used reading lines refused)
      (feeds feeds' : List F) (known : AreKnown text feeds sources) where
    never_first : (others : List NumberedLine) → ReadsFirst (pass_of text faults feeds feeds') (Ok others) → ⊥
    never_first others (read, reads, end, ends') =
        let here = same_reading text faults feeds feeds' sources read known reads in
        not_both once limit_once either empty_map none_used reading others lines end refused
        (subst (λ (r : Reading). Ends empty_map none_used r others end) here ends') refuses

    same_refused : (stopped : AsmFault) → stopped ≡ refused → IsRefusal refused stopped
    same_refused fault.Read e = tt
    same_refused fault.NoMemory e = tt
    same_refused stopped e = e

    refused_first : (stopped : AsmFault) → ReadsFirst (pass_of text faults feeds feeds') (Err stopped) → IsRefusal refused stopped
    refused_first fault.Read h = tt
    refused_first (fault.Write output) h = absurd h
    refused_first fault.NoMemory h = tt
    refused_first stopped h =
        let here = same_reading text faults feeds feeds' sources h.0 known h.1 in
        let same = one_refusal once limit_once either empty_map none_used reading lines h.2 refused stopped refuses
        (subst (λ (r : Reading). Refuses empty_map none_used r h.2 stopped) here h.3) in
        same_refused stopped (sym same.1)

  -- ---- the run

  module _ (one again two later : List F) (known : AreKnown text one sources) (known' : AreKnown text two sources)
      (old new : Outputs) where
    abbrev Runs : Result AsmDone AsmFault → Type 0
    Runs returned = AsmRuns (pass_of text faults one again) (pass_of text faults two later) old new returned

    module _ (lines : List NumberedLine) (ended : EndOfSource) (ends : Ends empty_map none_used reading lines ended) where
      told : (others : List NumberedLine) (returned : Result AsmDone AsmFault) → others ≡ lines
          → ReadsSecond (pass_of text faults two later) (program_of (givens others)) old new returned
          → ReadsSecond (pass_of text faults two later) (program_after lines) old new returned
      told others returned same h = subst
          (λ (ls : List NumberedLine). ReadsSecond (pass_of text faults two later) (program_of (givens ls)) old new returned) same h

      by_lines : (returned : Result AsmDone AsmFault) → Runs returned
          → IsDecided (Assembled (program_writes (program_after lines) lines ended)
          (flagged_count (program_after lines) lines ended.has_end)) old new returned
      by_lines (Ok done) (others, reads, reads') =
          second_writes lines ended ends old new two later known' done
          (told others (Ok done) (same_lines lines ended ends old new one again known others reads) reads')
      by_lines (Err stopped) (inl (reads, unread, same)) = first_stops lines ended ends old new one again known stopped reads same
      by_lines (Err stopped) (inr (others, reads, reads')) =
          second_stops lines ended ends old new two later known' stopped
          (told others (Err stopped) (same_lines lines ended ends old new one again known others reads) reads')

    by_refusal : (refused : AsmFault) (writes : List Write) (lines : List NumberedLine) → Refuses empty_map none_used reading lines refused
        → (returned : Result AsmDone AsmFault) → Runs returned → IsDecided (Refused refused writes) old new returned
    by_refusal refused writes lines refuses (Ok done) (others, reads, reads') =
        never_first refused lines refuses one again known others reads
    by_refusal refused writes lines refuses (Err stopped) (inl (reads, unread, same)) =
        (refused_first refused lines refuses one again known stopped reads, same)
    by_refusal refused writes lines refuses (Err stopped) (inr (others, reads, reads')) =
        absurd (never_first refused lines refuses one again known others reads)

    by_outcome : (all : Outcome) → IsDecidedByFirst reading all → (returned : Result AsmDone AsmFault) → Runs returned
        → IsDecided all old new returned
    by_outcome (Refused refused writes) (none, lines, refuses) returned runs =
        by_refusal refused writes lines refuses returned runs
    by_outcome (Assembled writes flagged) (lines, ended, ends, same, count) returned runs =
        let P : List Write → Type 0 = λ ws. IsDecided (Assembled ws flagged) old new returned in
        let Q : ℕ → Type 0 =
        λ n. IsDecided (Assembled (program_writes (program_after lines) lines ended) n) old new returned in
        subst P (sym same) (subst Q (sym count) (by_lines lines ended ends returned runs))

    pub run_decided : (all : Outcome) → AssembleTo sources all → (returned : Result AsmDone AsmFault) → Runs returned
        → IsDecided all old new returned
    run_decided all assembles returned runs =
        by_outcome all (told_by_first alike passes_none reading all assembles) returned runs

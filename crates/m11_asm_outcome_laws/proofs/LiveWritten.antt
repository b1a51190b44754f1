-- The result of a run over known sources follows from their live lines.
use Rattle.std.proofs.Common.{◌≡◌, ℕ, List, Option, Result, Ok, Err, inl, inr, sym, subst}
use Rattle.m11_asm.specs.Outcome.{Ends, Refuses}
use Rattle.m11_base_writes.specs.Passes.{AreKnown, pass_of}
use Rattle.m11_asm.specs.Passes.{ReadsFirst, ReadsSecond}
use Rattle.m11_asm.specs.Run.{AsmRuns}
use Rattle.m11_asm.specs.Written.{EndOfSource, pieces_in, program_writes}
use Rattle.m11_asm.specs.declared.done.AsmDone.{AsmDone}
use Rattle.m11_asm_faults.specs.declared.fault.AsmFault.{AsmFault}
use Rattle.m11_asm_faults.specs.declared.fault.AsmFault.TheVariants as fault
use Rattle.m11_asm_outputs.specs.Object.{AllFit, object_contents}
use Rattle.m11_asm_outputs.specs.Outputs.{Gains}
use Rattle.m11_base_writes.specs.Outputs.{Outputs}
use Rattle.m11_base.specs.Devices.{Bytes}
use Rattle.m11_base.specs.Feed.{Text}
use Rattle.m11_asm_passes.specs.Lines.{NumberedLine}
use Rattle.m11_asm_rules.specs.Meanings.{empty_map}
use Rattle.m11_scan_line_laws.specs.Readings.{Reading, reading_of}
use Rattle.m11_asm_outcome_laws.specs.Beginnings.{MayStop}
use Rattle.m11_asm_outcome_laws.specs.Live.{ComesTo, WritesLive}
use Rattle.m11_asm_outcome_laws.specs.OneText.{program_after}
use Rattle.m11_asm_outcome_laws.proofs.OneText.{EndAlike, PassesNone, never, same_end}
use Rattle.m11_asm_outcome_laws.proofs.SourcesRead.{same_reading}
use Rattle.m11_asm_lines.specs.declared.counting.Counting.TheVariants.{Definitions}
use Rattle.m11_asm_lines.specs.Counting.{none_used}

module _ (alike : EndAlike) (passes_none : PassesNone) {F : Type 0} (text : F → Option Text) (faults : F → ℕ) (sources : List Bytes)
    (one again two later : List F) (known : AreKnown text one sources) (known' : AreKnown text two sources) (old new : Outputs) where
  abbrev reading : Reading
  reading = reading_of sources

  -- if a reading is that of the sources, a pass over the reading ends as a pass over the sources does
  first_ends : (lines : List NumberedLine) (ended : EndOfSource) (read : Reading) → read ≡ reading → Ends empty_map none_used read lines ended
      → Ends empty_map none_used reading lines ended
  first_ends lines ended read same ends = subst (λ (r : Reading). Ends empty_map none_used r lines ended) same ends

  module _ (lines : List NumberedLine) (ended : EndOfSource) (ends : Ends empty_map none_used reading lines ended) where
    abbrev Second : Result AsmDone AsmFault → Type 0
    Second returned = ReadsSecond (pass_of text faults two later) (program_after lines) old new returned

    all_written : (done : AsmDone) → Second (Ok done) → WritesLive sources old new
    all_written done (read, reads, h) =
        let here = same_reading text faults two later sources read known' reads in
        let ends' = subst (λ (r : Reading).
        Ends (program_after lines).map Definitions r h.lines h.ended) here h.ends in
        let same = same_end alike passes_none reading lines ended ends h.lines h.ended ends' in
        record {
          lines = lines;
          ended = ended;
          ends = ends;
          gains = subst (λ (e : EndOfSource). Gains old new (program_writes (program_after lines) lines e)) (sym same.1)
              (subst (λ (ls : List NumberedLine). Gains old new (program_writes (program_after lines) ls h.ended)) (sym same.0) h.gains);
          flushed = h.flushed;
          fit = subst (λ (ls : List NumberedLine).
              AllFit (object_contents (program_after lines).rows (pieces_in (program_after lines).map ls))) (sym same.0) h.fit;
        }

    second_stops : (stopped : AsmFault) → Second (Err stopped) → MayStop stopped
    second_stops fault.Read h = tt
    second_stops (fault.Write output) h = tt
    second_stops fault.NoMemory h = tt
    second_stops stopped h =
        let here = same_reading text faults two later sources h.0 known' h.1 in
        absurd (never alike passes_none reading lines ended ends h.2 stopped
        (subst (λ (r : Reading). Refuses (program_after lines).map Definitions r h.2 stopped) here h.3))

  first_stops : (stopped : AsmFault) → ReadsFirst (pass_of text faults one again) (Err stopped) → ComesTo sources old new (Err stopped)
  first_stops fault.Read h = inl tt
  first_stops (fault.Write output) h = absurd h
  first_stops fault.NoMemory h = inl tt
  first_stops stopped h =
      let here = same_reading text faults one again sources h.0 known h.1 in
      inr (h.2, subst (λ (r : Reading). Refuses empty_map none_used r h.2 stopped) here h.3)

  pub run_comes_to : (returned : Result AsmDone AsmFault)
      → AsmRuns (pass_of text faults one again) (pass_of text faults two later) old new returned → ComesTo sources old new returned
  run_comes_to (Ok done) (lines, (read, reads, ended, ends), reads') =
      all_written lines ended (first_ends lines ended read (same_reading text faults one again sources read known reads) ends) done reads'
  run_comes_to (Err stopped) (inl (reads, unread, same)) = first_stops stopped reads
  run_comes_to (Err stopped) (inr (lines, (read, reads, ended, ends), reads')) = inl
      (second_stops lines ended (first_ends lines ended read (same_reading text faults one again sources read known reads) ends) stopped
      reads')

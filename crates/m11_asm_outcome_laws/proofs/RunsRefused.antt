-- A run that ends with a fault of the sources has written their outcome.
use Rattle.std.proofs.Common.{◌≡◌, List, [], Ok, Err, inl, inr, refl, sym, subst}
use Rattle.m11_asm.specs.Outcome as outcome
use Rattle.m11_asm.specs.Outcome.{HasOutcome, Refused, Refuses}
use Rattle.m11_base_writes.specs.Passes.{Pass}
use Rattle.m11_asm.specs.Passes.{Reads, ReadsFirst, ReadsSecond}
use Rattle.m11_asm.specs.Run.{AsmRuns}
use Rattle.m11_asm_faults.specs.declared.fault.AsmFault.{AsmFault}
use Rattle.m11_asm_faults.specs.declared.fault.AsmFault.TheVariants as fault
use Rattle.m11_asm_outputs.specs.Outputs.{Gains, assembly}
use Rattle.m11_base_writes.specs.Outputs.{Outputs, Write}
use Rattle.m11_asm_passes.specs.Lines.{NumberedLine, givens}
use Rattle.m11_asm_rules.specs.Meanings.{empty_map}
use Rattle.m11_scan_line_laws.specs.Readings.{Reading}
use Rattle.m11_asm.specs.Program.{Program, program_of}
use Rattle.m11_asm.specs.Written.{written}
use Rattle.m11_base_writes.proofs.Writing.{gains_nothing}
use Rattle.m11_asm_outcome_laws.specs.Runs as runs
use Rattle.m11_asm_outcome_laws.specs.Runs.{IsOfSources, IsRefused}
use Rattle.m11_asm_lines.specs.declared.counting.Counting.TheVariants.{Definitions}
use Rattle.m11_asm_lines.specs.Counting.{none_used}

-- what the passes of a run promise if they end with a fault of the sources
abbrev FirstRefuses : {F : Type 0} → Pass F → AsmFault → Type 0
FirstRefuses first stopped =
    (reading : Reading) × Reads first reading × (lines : List NumberedLine) × Refuses empty_map none_used reading lines stopped

abbrev SecondRefuses : {F : Type 0} → Pass F → Program → Outputs → Outputs → AsmFault → Type 0
SecondRefuses second program old new stopped =
    (reading : Reading) × Reads second reading
    × (lines : List NumberedLine) × Refuses program.map Definitions reading lines stopped × Gains old new (written program lines)

first_refuses : {F : Type 0} (first : Pass F) (stopped : AsmFault) → IsOfSources stopped → ReadsFirst first (Err stopped)
    → FirstRefuses first stopped
first_refuses first fault.Read of reads = absurd of
first_refuses first (fault.Write output) of reads = absurd of
first_refuses first fault.NoMemory of reads = absurd of
first_refuses first fault.TooManySymbols of reads = reads
first_refuses first fault.TooManySections of reads = reads
first_refuses first (fault.Unfold inner) of reads = reads
first_refuses first fault.TooMuchSource of reads = reads

second_refuses : {F : Type 0} (second : Pass F) (program : Program) (old new : Outputs) (stopped : AsmFault) → IsOfSources stopped
    → ReadsSecond second program old new (Err stopped) → SecondRefuses second program old new stopped
second_refuses second program old new fault.Read of reads = absurd of
second_refuses second program old new (fault.Write output) of reads = absurd of
second_refuses second program old new fault.NoMemory of reads = absurd of
second_refuses second program old new fault.TooManySymbols of reads = reads
second_refuses second program old new fault.TooManySections of reads = reads
second_refuses second program old new (fault.Unfold inner) of reads = reads
second_refuses second program old new fault.TooMuchSource of reads = reads

module _ {F : Type 0} (first second : Pass F) (old new : Outputs) (stopped : AsmFault) (of : IsOfSources stopped) where
  by_first : FirstRefuses first stopped → second.new ≡ second.old → new ≡ old
      → (writes : List Write) × IsRefused first second stopped writes × Gains old new writes
  by_first (one, reads, lines, refuses) unread untouched = (
    [],
    runs.IsRefused.InFirst one reads unread refl (λ other. outcome.HasOutcome.FirstRefuses lines stopped refuses),
    subst (λ (o : Outputs). Gains old o []) (sym untouched) (gains_nothing assembly old),
  )

  by_second : (lines : List NumberedLine) → ReadsFirst first (Ok lines) → SecondRefuses second (program_of (givens lines)) old new stopped
      → (writes : List Write) × IsRefused first second stopped writes × Gains old new writes
  by_second lines (one, reads, ended, ends) (other, reads', others, refuses, gains) =
      let program : Program = program_of (givens lines) in (
        written program others,
        runs.IsRefused.InSecond one other reads reads'
            (outcome.HasOutcome.SecondRefuses lines ended program others stopped ends refl refuses),
        gains,
      )

  pub refused_so : AsmRuns first second old new (Err stopped)
      → (writes : List Write) × IsRefused first second stopped writes × Gains old new writes
  refused_so (inl (reads, unread, untouched)) = by_first (first_refuses first stopped of reads) unread untouched
  refused_so (inr (lines, read, reads)) =
      by_second lines read (second_refuses second (program_of (givens lines)) old new stopped of reads)

-- The two passes together are the run.
use Rattle.std.proofs.Common.{◌≡◌, ◌∙◌, ℕ, List, Result, Ok, Err, refl, sym, ap, subst, inr}
use Rattle.m11_asm_faults.specs.declared.fault.AsmFault.{AsmFault}
use Rattle.m11_asm_outputs.specs.Outputs.{Gains}
use Rattle.m11_base_writes.specs.Outputs.{AreFlushed, Outputs, Write}
use Rattle.m11_asm.specs.First.{FirstState, Symbols}
use Rattle.m11_asm_passes.specs.Lines.{NumberedLine, givens}
use Rattle.m11_asm_rules.specs.Meanings.{empty_map}
use Rattle.m11_asm_rules.specs.Placements.{table_after}
use Rattle.m11_asm_rules.specs.Tables.{Table}
use Rattle.m11_unfold_rules.specs.Unfolding.{UnfoldedLine}
use Rattle.m11_asm.specs.Facts.{Facts}
use Rattle.m11_scan_line_laws.specs.Readings.{Reading}
use Rattle.m11_asm.specs.Program.{Program, program_by, program_in, program_of, used_in}
use Rattle.m11_asm.specs.Written.{program_writes}
use Rattle.m11_asm.specs.declared.done.AsmDone.{AsmDone}
use Rattle.m11_asm.specs.Extents.{AsmGives, GivesToEnd, SecondGives}
use Rattle.m11_asm.specs.FirstReading.{GivesSymbols}
use Rattle.m11_asm.specs.Outcome as outcome
use Rattle.m11_asm.specs.Outcome.{Assembled, HasOutcome}
use Rattle.m11_base_writes.specs.Passes.{Pass}
use Rattle.m11_asm.specs.Passes.{Reads, ReadsFirst, ReadsSecond}
use Rattle.m11_asm.specs.Run.{AsmRuns, AsmRunsOr}
use Rattle.m11_asm.proofs.FirstLines.{first_gives, first_reads}
use Rattle.m11_asm_lines.specs.Counting.{none_used, used_names_in}
use Rattle.m11_asm_lines.specs.declared.counting.Counting.{Counting}

-- the first pass yields the program of its live lines
module _ {F : Type 0} (first : Pass F) (symbols : Symbols) (gives : GivesSymbols first (Ok symbols)) where
  program_is : program_in symbols ≡ program_of (givens gives.1.stands.lines)
  program_is =
      let state : FirstState = gives.0 in
      let lines : List UnfoldedLine = givens gives.1.stands.lines in
      let taken = gives.1.stands.taken in
      ap program_in gives.2
      ∙ ap (λ (t : Table). program_by t (used_names_in state.pass_state.counting) state.facts) taken.stands.table
      ∙ ap (λ (c : Counting). program_by (table_after empty_map lines) (used_names_in c) state.facts) taken.stands.counting
      ∙ ap (λ (f : Facts). program_by (table_after empty_map lines) (used_in lines) f) taken.done

module _ {F : Type 0} (Untouched : Type 0) (first second : Pass F) (old new : Outputs) where
  runs_by : (lines : List NumberedLine) → ReadsFirst first (Ok lines) → (result : Result AsmDone AsmFault)
      → ReadsSecond second (program_of (givens lines)) old new result → AsmRunsOr Untouched first second old new result
  runs_by lines read (Ok done) reads = (lines, read, reads)
  runs_by lines read (Err stopped) reads = inr (lines, read, reads)

  pub asm_runs : (symbols : Symbols) → GivesSymbols first (Ok symbols) → (result : Result AsmDone AsmFault)
      → ReadsSecond second (program_in symbols) old new result → AsmRunsOr Untouched first second old new result
  asm_runs symbols gives result reads =
      runs_by gives.1.stands.lines (first_reads first gives.0 gives.1) result
      (subst (λ (p : Program). ReadsSecond second p old new result) (program_is first symbols gives) reads)

-- how far both passes read their feeds
module _ {F : Type 0} (first second : Pass F) (old new : Outputs) where
  gives_by : (lines : List NumberedLine) → GivesToEnd first empty_map none_used lines → (result : Result AsmDone AsmFault)
      → SecondGives second (program_of (givens lines)) old new result → AsmGives first second old new result
  gives_by lines given (Ok done) gives = (lines, given, gives)
  gives_by lines given (Err stopped) gives = inr (lines, given, gives)

  pub asm_gives : (symbols : Symbols) → GivesSymbols first (Ok symbols) → (result : Result AsmDone AsmFault)
      → SecondGives second (program_in symbols) old new result → AsmGives first second old new result
  asm_gives symbols gives result given =
      gives_by gives.1.stands.lines (first_gives first gives.0 gives.1) result
      (subst (λ (p : Program). SecondGives second p old new result) (program_is first symbols gives) given)

-- a run that is Ok has the outcome of its readings
pub has_outcome : {F : Type 0} (first second : Pass F) (old new : Outputs) (done : AsmDone) → AsmRuns first second old new (Ok done)
    → (one : Reading) × (other : Reading) × Reads first one × Reads second other
    × (writes : List Write) × HasOutcome one other (Assembled writes done.flagged) × Gains old new writes × AreFlushed new
has_outcome first second old new done (lines, read, reads) =
    let program : Program = program_of (givens lines) in
    let all : List Write = program_writes program reads.2.lines reads.2.ended in
    let P : ℕ → Type 0 = λ n. HasOutcome read.0 reads.0 (Assembled all n) in (
      read.0,
      reads.0,
      read.1,
      reads.1,
      all,
      subst P (sym reads.2.count)
          (outcome.HasOutcome.Assembles lines read.2 program reads.2.lines reads.2.ended read.3 refl reads.2.ends),
      reads.2.gains,
      reads.2.flushed,
    )

-- What is true of the feeds of an assembly is true of their inputs, which are the texts and counts of failures of the feeds.
use Rattle.std.proofs.Common.{ℕ, List, inl, inr, ap, Option, Result, Ok, Err}
use Rattle.m11_base_writes.specs.Passes.{pass_of}
use Rattle.m11_asm.specs.Passes.{ReadsFirst, ReadsSecond}
use Rattle.m11_asm.specs.Run.{AsmRuns}
use Rattle.m11_asm_faults.specs.declared.fault.AsmFault.{AsmFault}
use Rattle.m11_asm_faults.specs.declared.fault.AsmFault.TheVariants as fault
use Rattle.m11_base_writes.specs.Outputs.{Outputs}
use Rattle.m11_base.specs.Feed.{Text}
use Rattle.m11_asm_passes.specs.Lines.{NumberedLine, givens}
use Rattle.m11_scan_line_laws.specs.Calls.{FailReading, HaveReading}
use Rattle.m11_scan_line_laws.specs.Readings.{Reading}
use Rattle.m11_asm.specs.Program.{Program, program_of}
use Rattle.m11_asm.specs.declared.done.AsmDone.{AsmDone}
use Rattle.m11_cli.proofs.Sources.{give, none, one, seen}

module _ {F : Type 0} (text : F → Option Text) (faults : F → ℕ) where
  pub have : (olds news : List F) (reading : Reading) → HaveReading text faults olds news reading
      → HaveReading (λ s. s.text) (λ s. s.faults) (seen text faults olds) (seen text faults news) reading
  have olds news reading h = (none text faults olds news h.0, h.1, give text faults olds h.1 h.2, h.3)

  fail : (olds news : List F) (reading : Reading) → FailReading text faults olds news reading
      → FailReading (λ s. s.text) (λ s. s.faults) (seen text faults olds) (seen text faults news) reading
  fail olds news reading h = (h.0, h.1, one text faults olds news h.0 h.1 h.2, h.3)

  first : (olds news : List F) (result : Result (List NumberedLine) AsmFault)
      → ReadsFirst (pass_of text faults olds news) result
      → ReadsFirst (pass_of (λ s. s.text) (λ s. s.faults) (seen text faults olds) (seen text faults news)) result
  first olds news (Ok lines) h = (h.0, have olds news h.0 h.1, h.2, h.3)
  first olds news (Err fault.Read) h = (h.0, fail olds news _ h.1, h.2, h.3)
  first olds news (Err (fault.Write output)) h = absurd h
  first olds news (Err fault.TooManySymbols) h = (h.0, have olds news h.0 h.1, h.2, h.3)
  first olds news (Err fault.TooManySections) h = (h.0, have olds news h.0 h.1, h.2, h.3)
  first olds news (Err (fault.Unfold inner)) h = (h.0, have olds news h.0 h.1, h.2, h.3)
  first olds news (Err fault.TooMuchSource) h = (h.0, have olds news h.0 h.1, h.2, h.3)
  first olds news (Err fault.NoMemory) h = none text faults olds news h

  second : (olds news : List F) (program : Program) (old new : Outputs) (result : Result AsmDone AsmFault)
      → ReadsSecond (pass_of text faults olds news) program old new result
      → ReadsSecond (pass_of (λ s. s.text) (λ s. s.faults) (seen text faults olds) (seen text faults news)) program old new
      result
  second olds news program old new (Ok done) h = (h.0, have olds news h.0 h.1, h.2)
  second olds news program old new (Err fault.Read) h = (h.0, fail olds news _ h.1, h.2, h.3, h.4)
  second olds news program old new (Err (fault.Write output)) h = (h.0, have olds news h.0 h.1, h.2)
  second olds news program old new (Err fault.TooManySymbols) h = (h.0, have olds news h.0 h.1, h.2, h.3, h.4)
  second olds news program old new (Err fault.TooManySections) h = (h.0, have olds news h.0 h.1, h.2, h.3, h.4)
  second olds news program old new (Err (fault.Unfold inner)) h = (h.0, have olds news h.0 h.1, h.2, h.3, h.4)
  second olds news program old new (Err fault.TooMuchSource) h = (h.0, have olds news h.0 h.1, h.2, h.3, h.4)
  second olds news program old new (Err fault.NoMemory) h = (h.0, have olds news h.0 h.1, h.2)

  pub asm_runs : (olds news again later : List F) (old new : Outputs) (result : Result AsmDone AsmFault)
      → AsmRuns (pass_of text faults olds news) (pass_of text faults again later) old new result
      → AsmRuns (pass_of (λ s. s.text) (λ s. s.faults) (seen text faults olds) (seen text faults news))
      (pass_of (λ s. s.text) (λ s. s.faults) (seen text faults again) (seen text faults later)) old new result
  asm_runs olds news again later old new (Ok done) h =
      (h.0, first olds news (Ok h.0) h.1, second again later (program_of (givens h.0)) old new (Ok done) h.2)
  asm_runs olds news again later old new (Err stopped) (inl h) =
      inl (first olds news (Err stopped) h.0, ap (seen text faults) h.1, h.2)
  asm_runs olds news again later old new (Err stopped) (inr h) =
      inr (h.0, first olds news (Ok h.0) h.1, second again later (program_of (givens h.0)) old new (Err stopped) h.2)

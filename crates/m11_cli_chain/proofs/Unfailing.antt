-- If feeds never fail, no assembly and no link of them ends with `Read`.
use Rattle.std.proofs.Common.{◌≢◌, ℕ, List, [], ◌∷◌, Option, Result, Ok, Err, IfErr, subst, inl, inr, arith}
use Rattle.m11_asm.specs.Passes as asm
use Rattle.m11_asm.specs.Program.{Program, program_of}
use Rattle.m11_asm.specs.Run.{AsmRuns}
use Rattle.m11_asm.specs.declared.done.AsmDone.{AsmDone}
use Rattle.m11_asm_faults.specs.declared.fault.AsmFault.{AsmFault}
use Rattle.m11_asm_faults.specs.declared.fault.AsmFault.TheVariants as assembly
use Rattle.m11_base_writes.specs.Outputs.{Outputs}
use Rattle.m11_base.specs.Devices.{Bytes, Rises}
use Rattle.m11_base.specs.Feed.{OneFailed, Text}
use Rattle.m11_base_writes.specs.Passes.{pass_of}
use Rattle.m11_link_layout.specs.declared.fault.LinkFault.{LinkFault}
use Rattle.m11_link_layout.specs.declared.fault.LinkFault.TheVariants as linking
use Rattle.m11_link.specs.FirstPass as first_pass
use Rattle.m11_link.specs.SecondPass.{LinkRuns, ReadsSecond}
use Rattle.m11_link.specs.declared.emit.LinkDone.{LinkDone}
use Rattle.m11_link_text.specs.Findings.{Findings, findings_of}
use Rattle.m11_asm_passes.specs.Lines.{givens}
use Rattle.m11_cli_chain.specs.Steps.{NeverFail}

pub none_rises : Rises 0 0 → ⊥
none_rises e = absurd (omega (arith, e))

module _ {F : Type 0} (text : F → Option Text) (faults : F → ℕ) (never : NeverFail faults) where
  none_failed : (before after : List F) (sources : List Bytes) (beginning : Bytes)
      → OneFailed text faults before after sources beginning → ⊥
  none_failed [] after sources beginning h = absurd h
  none_failed (feed ∷ feeds) [] sources beginning h = absurd h
  none_failed (feed ∷ feeds) (now ∷ later) [] beginning (begins, rises, same) = never feed now rises
  none_failed (feed ∷ feeds) (now ∷ later) (source ∷ sources) beginning (has, same, failed) =
      none_failed feeds later sources beginning failed

  -- ---- an assembly

  module _ (before after : List F) where
    first_reads : asm.ReadsFirst (pass_of text faults before after) (Err assembly.Read) → ⊥
    first_reads (source, (sources, beginning, failed, same), lines, unended) = none_failed before after sources beginning failed

    second_reads : (program : Program) (old new : Outputs)
        → asm.ReadsSecond (pass_of text faults before after) program old new (Err assembly.Read) → ⊥
    second_reads program old new (source, (sources, beginning, failed, same), lines, unended, writes) =
        none_failed before after sources beginning failed

  module _ (first again second later : List F) where
    pub assembly_reads : (old new : Outputs) (returned : Result AsmDone AsmFault)
        → AsmRuns (pass_of text faults first again) (pass_of text faults second later) old new returned
        → IfErr returned (λ fault. fault ≢ assembly.Read)
    assembly_reads old new (Ok done) runs = tt
    assembly_reads old new (Err stopped) (inl (reads, unread, same)) = λ e.
        first_reads first again (subst (λ (f : AsmFault). asm.ReadsFirst (pass_of text faults first again) (Err f)) e reads)
    assembly_reads old new (Err stopped) (inr (lines, reads, reads')) = λ e.
        second_reads second later (program_of (givens lines)) old new
        (subst (λ (f : AsmFault). asm.ReadsSecond (pass_of text faults second later) (program_of (givens lines)) old new (Err f)) e reads')

  -- ---- a link

  module _ (before after : List F) where
    first_links : (bottom : ℕ) → first_pass.ReadsFirst (pass_of text faults before after) bottom (Err linking.Read) → ⊥
    first_links bottom (items, fails, taken) = none_failed before after fails.sources fails.beginning fails.failed

    second_links : (found : Findings) (old new : Outputs)
        → ReadsSecond (pass_of text faults before after) found old new (Err linking.Read) → ⊥
    second_links found old new (items, fails, writes) = none_failed before after fails.sources fails.beginning fails.failed

  module _ (first again second later : List F) where
    pub link_reads : (bottom : ℕ) (old new : Outputs) (returned : Result LinkDone LinkFault)
        → LinkRuns (pass_of text faults first again) (pass_of text faults second later) bottom old new returned
        → IfErr returned (λ fault. fault ≢ linking.Read)
    link_reads bottom old new (Ok done) runs = tt
    link_reads bottom old new (Err stopped) (inl (reads, unread, same)) = λ e. first_links first again bottom
        (subst (λ (f : LinkFault). first_pass.ReadsFirst (pass_of text faults first again) bottom (Err f)) e reads)
    link_reads bottom old new (Err stopped) (inr (parts, reads, reads')) = λ e.
        second_links second later (findings_of bottom parts) old new
        (subst (λ (f : LinkFault). ReadsSecond (pass_of text faults second later) (findings_of bottom parts) old new (Err f)) e reads')

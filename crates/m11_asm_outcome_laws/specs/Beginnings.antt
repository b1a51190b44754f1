-- The result of a run of the assembler over known sources. (Which faults can end a run early is this project's own choice.)
use Rattle.std.specs.Prelude.{◌≡◌, ⊤, Result, Ok, Err}
use Rattle.m11_asm_faults.specs.declared.fault.AsmFault.{AsmFault}
use Rattle.m11_asm_faults.specs.declared.fault.AsmFault.TheVariants as fault
use Rattle.m11_asm_outputs.specs.Outputs.{Gains, assembly}
use Rattle.m11_base_writes.specs.Outputs.{AreFlushed, Outputs}
use Rattle.m11_base_writes.specs.Writes.{LeavesBeginnings}
use Rattle.m11_asm.specs.Outcome.{Assembled, Outcome, Refused}
use Rattle.m11_asm.specs.declared.done.AsmDone.{AsmDone}

-- the fault can stop a run over sources that aren't refused: a device failed, or memory was refused
abbrev pub MayStop : AsmFault → Type 0
MayStop fault.Read = ⊤
MayStop (fault.Write output) = ⊤
MayStop fault.NoMemory = ⊤
MayStop stopped = ⊥

-- the run stopped with the refusal of the sources, or because a feed failed or memory was refused
abbrev pub IsRefusal : AsmFault → AsmFault → Type 0
IsRefusal refused fault.Read = ⊤
IsRefusal refused fault.NoMemory = ⊤
IsRefusal refused stopped = stopped ≡ refused

-- If the sources are assembled, the run wrote everything in the outcome, object and listing hold nothing back, and the run returned the
-- count of flagged lines; or a device or a lack of memory stopped it, and each output gained a prefix of what the outcome has for it. If
-- the sources are refused, the run stopped with the refusal, `Read` or `NoMemory`, and wrote nothing.
abbrev pub IsDecided : Outcome → Outputs → Outputs → Result AsmDone AsmFault → Type 0
IsDecided (Assembled writes flagged) old new (Ok done) = Gains old new writes × (done.flagged ≡ flagged) × AreFlushed new
IsDecided (Assembled writes flagged) old new (Err stopped) = MayStop stopped × LeavesBeginnings assembly old new writes
IsDecided (Refused refused writes) old new (Ok done) = ⊥
IsDecided (Refused refused writes) old new (Err stopped) = IsRefusal refused stopped × (new ≡ old)

-- Runs of the linker with known objects. (This project's own.)
use Rattle.std.specs.Prelude.{◌≡◌, ℕ, List, ⊤, Result, Ok, Err}
use Rattle.m11_link_modules.specs.Parts.{Part}
use Rattle.m11_link_layout.specs.declared.fault.LinkFault.{LinkFault}
use Rattle.m11_link_layout.specs.declared.fault.LinkFault.TheVariants as fault
use Rattle.m11_link_text.specs.Findings.{findings_of}
use Rattle.m11_link.specs.Outputs.{Gains, link}
use Rattle.m11_base_writes.specs.Outputs.{AreFlushed, Outputs}
use Rattle.m11_link.specs.Written.{counted, link_writes}
use Rattle.m11_link.specs.declared.emit.LinkDone.{LinkDone}
use Rattle.m11_base_writes.specs.Writes.{LeavesBeginnings}

-- the fault may stop a link even if the objects have no fault: it is `Read`, `Write` or `NoMemory`
abbrev pub MayStop : LinkFault → Type 0
MayStop fault.Read = ⊤
MayStop (fault.Write output) = ⊤
MayStop fault.NoMemory = ⊤
MayStop stopped = ⊥

-- the run's fault is the one with which the objects are refused, or it is `Read` or `NoMemory`
abbrev pub IsRefusal : LinkFault → LinkFault → Type 0
IsRefusal refused fault.Read = ⊤
IsRefusal refused fault.NoMemory = ⊤
IsRefusal refused stopped = stopped ≡ refused

-- if the objects yield parts: exactly the writes of the definitions were made, tape and map hold nothing back, and the messages are
-- counted; or `Read`, `Write` or `NoMemory` stopped the run, and each output gained a prefix of its bytes; if the objects are refused:
-- the run's fault is their refusal, `Read` or `NoMemory`, and nothing was written
abbrev pub IsDecided : ℕ → Result (List Part) LinkFault → Outputs → Outputs → Result LinkDone LinkFault → Type 0
IsDecided bottom (Ok parts) old new (Ok done) = Gains old new (link_writes (findings_of bottom parts) parts)
    × (done.messages ≡ counted 0 (link_writes (findings_of bottom parts) parts)) × AreFlushed new
IsDecided bottom (Ok parts) old new (Err stopped) = MayStop stopped
    × LeavesBeginnings link old new (link_writes (findings_of bottom parts) parts)
IsDecided bottom (Err refused) old new (Ok done) = ⊥
IsDecided bottom (Err refused) old new (Err stopped) = IsRefusal refused stopped × (new ≡ old)

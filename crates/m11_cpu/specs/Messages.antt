-- The report of a run at its end: one line with how it ended, such as `HALT`, and the number of steps, and one with the registers and the
-- PSW, each as six octal digits. (This project's own. The registers and their names: PDP-11/40 Processor Handbook, "General registers".)
use Rattle.std.specs.Prelude.{◌≡◌, ℕ, List, ◌++◌, slice_index_or, codes, Option, Result, Ok, Err}
use Rattle.std.specs.Fmt.{decimal}
use Rattle.std.specs.Io.KnownBytes.{Appends}
use Rattle.m11_base.specs.Devices.{Bytes, Rises}
use Rattle.m11_base.specs.Octal.{octal_text}
use Rattle.m11_base.specs.Sink.{AppendsPrefix}
use Rattle.m11_cpu_machine.specs.Stop.{stop_name}
use Rattle.m11_cpu_machine.specs.declared.stop.Stop.{Stop}
use Rattle.m11_cpu.specs.declared.fault.SimFault.{SimFault}
use Rattle.m11_cpu.specs.declared.fault.SimFault.TheVariants.{Load, Write, NoMemory}

-- the first line: how the run ended, such as `HALT`, and the number of steps begun, in decimal
unfoldable pub end_line : Bytes → ℕ → Bytes
end_line name steps = name ++ (codes " AFTER " ++ (decimal steps ++ codes " STEPS\n"))

-- the six octal digits of the register with this number
abbrev pub register_text : List ℕ → ℕ → Bytes
register_text registers number = octal_text (slice_index_or registers number 0)

-- the second line: the registers, the last two named SP and PC, and the PSW
unfoldable pub register_line : List ℕ → ℕ → Bytes
register_line registers psw =
    codes "R0 " ++ (register_text registers 0
    ++ (codes " R1 " ++ (register_text registers 1
    ++ (codes " R2 " ++ (register_text registers 2
    ++ (codes " R3 " ++ (register_text registers 3
    ++ (codes " R4 " ++ (register_text registers 4
    ++ (codes " R5 " ++ (register_text registers 5
    ++ (codes " SP " ++ (register_text registers 6
    ++ (codes " PC " ++ (register_text registers 7
    ++ (codes " PSW " ++ (octal_text psw ++ codes "\n")))))))))))))))))

-- the two lines at the end of a run, with this name for how it ended
abbrev pub end_text : Bytes → ℕ → List ℕ → ℕ → Bytes
end_text name steps registers psw = end_line name steps ++ register_line registers psw

-- the two lines that report a stop
abbrev pub messages_of : Stop → ℕ → List ℕ → ℕ → Bytes
messages_of stop steps registers psw = end_text (stop_name stop) steps registers psw

-- the text was written, or the sink failed after accepting a prefix of it (`Write`); no other fault occurs
abbrev pub PutsMessages : {A : Type 0} → Option Bytes → Option Bytes → ℕ → ℕ → Bytes → Result A SimFault → Type 0
PutsMessages old new faults faults' text (Ok done) = Appends old new text × (faults' ≡ faults)
PutsMessages old new faults faults' text (Err Write) = AppendsPrefix old new text × Rises faults faults'
PutsMessages old new faults faults' text (Err NoMemory) = ⊥
PutsMessages old new faults faults' text (Err (Load fault)) = ⊥

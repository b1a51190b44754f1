-- The outcome of a command, and its exit status. (This project's own: 0 done, halted or help; 1 flagged lines, messages of a link, or a
-- stop neither at HALT nor for a device; 2 a refused command line; 3 a device that failed, or a file that can't be opened or created; 4 a
-- malformed object or tape, or a tape that doesn't fit memory; 5 no memory; 6 a limit other than that of steps.)
use Rattle.std.specs.Prelude.{◌≡◌, ⊤, ℕ, Ok, Err, ◌==◌, if◌then◌else◌}
use Rattle.m11_asm_faults.specs.declared.fault.AsmFault.{AsmFault}
use Rattle.m11_asm_faults.specs.declared.fault.AsmFault.TheVariants as asm
use Rattle.m11_cli_reports.specs.Links.{link_status}
use Rattle.m11_cli_reports.specs.Runs.{sim_status, stop_status}
use Rattle.m11_cli_reports.specs.Usage.{usage_status}
use Rattle.m11_cli.specs.declared.outcome.Outcome.{Outcome}
use Rattle.m11_cli.specs.declared.outcome.Outcome.TheVariants.{Usage, Asm, Link, Sim, NotOpened}

-- the status of an assembly that ended early
abbrev pub asm_status : AsmFault → ℕ
asm_status asm.Read = 3
asm_status (asm.Write output) = 3
asm_status asm.TooManySymbols = 6
asm_status asm.TooManySections = 6
asm_status (asm.Unfold inner) = 6
asm_status asm.TooMuchSource = 6
asm_status asm.NoMemory = 5

-- the status of a command
abbrev pub status_of : Outcome → ℕ
status_of (Usage fault) = usage_status fault
status_of (Asm (Ok done)) = if done.flagged == 0 then 0 else 1
status_of (Asm (Err fault)) = asm_status fault
status_of (Link (Ok done)) = if done.messages == 0 then 0 else 1
status_of (Link (Err fault)) = link_status fault
status_of (Sim (Ok done)) = stop_status done.stop
status_of (Sim (Err fault)) = sim_status fault
status_of NotOpened = 3

-- a command that runs no tape leaves the console's input unread
abbrev pub LeavesConsole : {I : Type 0} → Outcome → I → I → Type 0
LeavesConsole (Sim result) old new = ⊤
LeavesConsole outcome old new = new ≡ old

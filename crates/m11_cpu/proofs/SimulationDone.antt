-- Whole runs that end in a fault.
use Rattle.std.proofs.Common.{◌≡◌, ℕ, List, Option, Ok, Err, refl, subst}
use Rattle.std.specs.Prelude.{unwrap_or}
use Rattle.m11_cpu.specs.declared.fault.LoadFault.{LoadFault}
use Rattle.m11_cpu.specs.declared.fault.SimFault.{SimFault}
use Rattle.m11_cpu.specs.declared.fault.SimFault.TheVariants.{Load, Write, NoMemory}
use Rattle.m11_cpu_machine.specs.declared.machine.Machine.{Machine}
use Rattle.m11_cpu.specs.declared.runs.Ran.{Ran}
use Rattle.m11_cpu_machine.specs.Dialogue.{Devices, Does, Input, Output}
use Rattle.m11_cpu.specs.Loading.{LoadsInto}
use Rattle.m11_cpu_machine.specs.Machine.{new_machine, psw_in}
use Rattle.m11_cpu.specs.Messages.{PutsMessages, messages_of}
use Rattle.m11_cpu.specs.Simulation.{HasRun, Request, RunDevices, Simulates, run_devices, started}

pub not_loaded : (request : Request) (tape tape' : Input) (console : Devices) (reported : Output)
    (machine m : Machine) (fault : LoadFault) → machine ≡ new_machine request.words
    → LoadsInto tape.text tape'.text tape.faults tape'.faults machine m (Err fault)
    → Simulates request (run_devices tape console reported) (run_devices tape' console reported) (Err (Load fault))
not_loaded request tape tape' console reported machine m fault e h =
    let P : Machine → Type 0 = λ n. LoadsInto tape.text tape'.text tape.faults tape'.faults n m (Err fault) in
    (m, subst P e h, refl, refl)

pub has_run : (request : Request) (before after : RunDevices) (ran : Ran) (machine loaded m : Machine)
    (transfer address : ℕ) → machine ≡ new_machine request.words
    → LoadsInto before.tape.text after.tape.text before.tape.faults after.tape.faults machine loaded (Ok transfer)
    → address ≡ unwrap_or request.start transfer
    → Does (started address request.limit loaded) before.console after.console (ran, m)
    → HasRun request before after ran m
has_run request before after ran machine loaded m transfer address e h f k =
    let P : Machine → Type 0 = λ n.
    LoadsInto before.tape.text after.tape.text before.tape.faults after.tape.faults n loaded (Ok transfer) in
    let Q : ℕ → Type 0 = λ n. Does (started n request.limit loaded) before.console after.console (ran, m) in
    record { transfer = transfer; loaded = loaded; loads = subst P e h; runs = subst Q f k }

pub not_reported : (request : Request) (before after : RunDevices) (ran : Ran) (m : Machine) (registers : List ℕ) (psw : ℕ)
    (fault : SimFault) → HasRun request before after ran m → registers ≡ m.registers → psw ≡ psw_in m
    → PutsMessages {A = Unit {0}} before.messages.text after.messages.text before.messages.faults after.messages.faults
    (messages_of ran.stop ran.steps registers psw) (Err fault)
    → Simulates request before after (Err fault)
not_reported request before after ran m registers psw Write run are e h =
    let Puts : List ℕ → ℕ → Type 0 = λ words bits. PutsMessages {A = Unit {0}} before.messages.text after.messages.text
    before.messages.faults after.messages.faults (messages_of ran.stop ran.steps words bits) (Err Write) in
    let puts = subst (λ bits. Puts m.registers bits) e (subst (λ words. Puts words psw) are h) in
    (ran, m, run, puts.0, puts.1)
not_reported request before after ran m registers psw NoMemory run are e h = absurd h
not_reported request before after ran m registers psw (Load fault) run are e h = absurd h

-- The bytes that the console's input returns and its output accepts, the stops that a machine stores, and runs that continue others.
-- (PDP-11/40 Processor Handbook; for the console this project's own.)
use Rattle.std.specs.Prelude.{◌≡◌, ℕ, ◌+◌, true, false, List, [], ◌∷◌, ◌++◌, Option, Some, None, ⊤}
use Rattle.std.specs.Io.KnownBytes.{Appends}
use Rattle.m11_base.specs.Feed.{GivesBytes}
use Rattle.m11_cpu_machine.specs.Dialogue.{Exchange, Asked, Sent, Gives, Ends, Fails, Input, Leads, Output}
use Rattle.m11_cpu.specs.Runs.{run_counted}
use Rattle.m11_cpu_machine.specs.declared.machine.Machine.{Machine}
use Rattle.m11_cpu.specs.declared.runs.Ran.{Ran}
use Rattle.m11_cpu_machine.specs.declared.stop.LastingStop.TheVariants as lasting
use Rattle.m11_cpu_machine.specs.declared.stop.Stop.TheVariants.{Halt, Limit, Wait, StackFault, NoStart, InputFault, OutputFault}
use Rattle.m11_cpu_machine.specs.declared.stop.Turn.{Turn}
use Rattle.m11_cpu_machine.specs.declared.stop.Turn.TheVariants.{Next, Stopped}

-- ---- the console

-- the bytes that the input returned, and those that the output accepted
abbrev pub given : List Exchange → List ℕ
given [] = []
given (Asked (Gives byte) ∷ es) = byte ∷ given es
given (Asked Ends ∷ es) = given es
given (Asked Fails ∷ es) = given es
given (Sent byte taken ∷ es) = given es

abbrev pub taken : List Exchange → List ℕ
taken [] = []
taken (Asked reply ∷ es) = taken es
taken (Sent byte true ∷ es) = byte ∷ taken es
taken (Sent byte false ∷ es) = taken es

-- the input, if there is one, returned exactly these bytes; without an input there are none
abbrev pub GaveJust : Option Input → Option Input → List ℕ → Type 0
GaveJust None None bytes = bytes ≡ []
GaveJust None (Some new) bytes = ⊥
GaveJust (Some old) None bytes = ⊥
GaveJust (Some old) (Some new) bytes = GivesBytes old.text new.text bytes

-- the output, if there is one, gained exactly these bytes; without an output there are none
abbrev pub GainedJust : Option Output → Option Output → List ℕ → Type 0
GainedJust None None bytes = bytes ≡ []
GainedJust None (Some new) bytes = ⊥
GainedJust (Some old) None bytes = ⊥
GainedJust (Some old) (Some new) bytes = Appends old.text new.text bytes

-- ---- stops

-- if a step stops because of a stack fault or a failed device, the machine stores that stop; and the step doesn't stop because of a limit
-- or an odd start address
abbrev pub StopLasts : Turn → Machine → Type 0
StopLasts Next m = ⊤
StopLasts (Stopped Halt) m = ⊤
StopLasts (Stopped Limit) m = ⊥
StopLasts (Stopped Wait) m = ⊤
StopLasts (Stopped StackFault) m = m.stopped ≡ Some lasting.StackFault
StopLasts (Stopped NoStart) m = ⊥
StopLasts (Stopped InputFault) m = m.stopped ≡ Some lasting.InputFault
StopLasts (Stopped OutputFault) m = m.stopped ≡ Some lasting.OutputFault

-- ---- runs

-- a run that reaches a first limit, and the run that continues it up to a second limit, are together one run up to the sum of both
abbrev pub AreJoined : ℕ → ℕ → Machine → Machine → Machine → Type 0
AreJoined first second m m' m'' = (es fs : List Exchange) (steps : ℕ) (ran : Ran)
    → Leads (run_counted first m) es (record { stop = Limit; steps = steps }, m')
    → Leads (run_counted second m') fs (ran, m'')
    → Leads (run_counted (first + second) m) (es ++ fs) (record { stop = ran.stop; steps = first + ran.steps }, m'')

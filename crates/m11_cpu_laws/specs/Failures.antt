-- Steps that are stopped by a failing device. (This project's own: no manual describes a failing device.)
use Rattle.std.specs.Prelude.{◌≡◌, true, false, List, [], ◌∷◌, Option, Some, None, ⊤}
use Rattle.m11_cpu_machine.specs.Dialogue.{Exchange, Asked, Sent, Gives, Ends, Fails}
use Rattle.m11_cpu_machine.specs.declared.machine.Machine.{Machine}
use Rattle.m11_cpu_machine.specs.declared.stop.Stop.{Stop}
use Rattle.m11_cpu_machine.specs.declared.stop.Stop.TheVariants.{Halt, Limit, Wait, StackFault, NoStart, InputFault, OutputFault}
use Rattle.m11_cpu_machine.specs.declared.stop.Turn.{Turn}
use Rattle.m11_cpu_machine.specs.declared.stop.Turn.TheVariants.{Next, Stopped}

-- the stop of a step if a device caused it; None if there is no stop or it has another cause
abbrev pub device_stop : Turn → Option Stop
device_stop Next = None
device_stop (Stopped Halt) = None
device_stop (Stopped Limit) = None
device_stop (Stopped Wait) = None
device_stop (Stopped StackFault) = None
device_stop (Stopped NoStart) = None
device_stop (Stopped InputFault) = Some InputFault
device_stop (Stopped OutputFault) = Some OutputFault

-- no exchange failed, and no device stopped the step; or only the last exchange failed: the stop is INPUT FAULT after a failed request, and
-- OUTPUT FAULT after a refused byte
abbrev pub StopsAtFailure : List Exchange → Option Stop → Type 0
StopsAtFailure [] stop = stop ≡ None
StopsAtFailure (Asked (Gives byte) ∷ es) stop = StopsAtFailure es stop
StopsAtFailure (Asked Ends ∷ es) stop = StopsAtFailure es stop
StopsAtFailure (Asked Fails ∷ es) stop = (es ≡ []) × (stop ≡ Some InputFault)
StopsAtFailure (Sent byte true ∷ es) stop = StopsAtFailure es stop
StopsAtFailure (Sent byte false ∷ es) stop = (es ≡ []) × (stop ≡ Some OutputFault)

-- the machine has no lasting stop after a step that can be followed by another, or that halts or waits
abbrev pub GoesOn : Turn → Machine → Type 0
GoesOn Next m = m.stopped ≡ None
GoesOn (Stopped Halt) m = m.stopped ≡ None
GoesOn (Stopped Limit) m = ⊤
GoesOn (Stopped Wait) m = m.stopped ≡ None
GoesOn (Stopped StackFault) m = ⊤
GoesOn (Stopped NoStart) m = ⊤
GoesOn (Stopped InputFault) m = ⊤
GoesOn (Stopped OutputFault) m = ⊤

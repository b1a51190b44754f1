-- The state of a machine as bytes. (This project's own.)
use Rattle.std.specs.Prelude.{◌≡◌, ℕ, ◌+◌, ◌*◌, ◌≤◌, ◌++◌, List, [], ◌∷◌, Option, Some, None, length, replicate}
use Rattle.m11_base.specs.Devices.{Bytes}
use Rattle.m11_cpu_machine.specs.Memory.{bytes_of, least_words, most_words}
use Rattle.m11_cpu_machine.specs.Status.{bit}
use Rattle.m11_cpu_machine.specs.Stop.{stop_number, stop_of}
use Rattle.m11_cpu_machine.specs.declared.console.Receiver.{Receiver}
use Rattle.m11_cpu_machine.specs.declared.machine.Machine.{Machine}
use Rattle.m11_cpu_machine.specs.declared.status.ProcessorStatus.{ProcessorStatus}
use Rattle.m11_cpu_machine.specs.declared.stop.LastingStop.{LastingStop}

-- the number of a lasting stop, or 0 if there is none
abbrev pub lasting_number : Option LastingStop → ℕ
lasting_number None = 0
lasting_number (Some stop) = stop_number (stop_of stop)

-- the priority, then T, N, Z, V and C
abbrev pub status_bytes : ProcessorStatus → Bytes
status_bytes status = status.priority ∷ bit status.trace ∷ bit status.codes.negative ∷ bit status.codes.zero
    ∷ bit status.codes.overflow ∷ bit status.codes.carry ∷ []

-- the byte that arrived last; whether it is unread; whether interrupts are enabled; whether the input has ended
abbrev pub receiver_bytes : Receiver → Bytes
receiver_bytes receiver =
    receiver.byte ∷ bit receiver.is_done ∷ bit receiver.is_enabled ∷ bit receiver.has_ended ∷ []

-- the state of a machine: its registers, the low byte of each first; its status; its receiver; whether the transmitter's interrupts are
-- enabled; its lasting stop; and its memory
abbrev pub state_of : Machine → Bytes
state_of m = bytes_of m.registers ++ (status_bytes m.status ++ (receiver_bytes m.receiver
    ++ (bit m.transmitter.is_enabled ∷ lasting_number m.stopped ∷ m.memory)))

-- the state of a machine with these registers and this memory, all else of which is 0 or clear
abbrev pub state_at_start : List ℕ → Bytes → Bytes
state_at_start registers memory = bytes_of registers ++ (replicate 12 0 ++ memory)

-- ---- which bytes are a state

-- a state of so many bytes has so many words of memory, as many as a machine may have
abbrev pub HasWords : ℕ → ℕ → Type 0
HasWords bytes words = (bytes ≡ 28 + 2 * words) × (least_words ≤ words) × (words ≤ most_words)

-- a machine has eight registers, and as many words of memory as a machine may have
abbrev pub IsWhole : Machine → Type 0
IsWhole m = (words : ℕ) × (length m.registers ≡ 8) × (length m.memory ≡ 2 * words) × (least_words ≤ words) × (words ≤ most_words)

-- bytes are the state of a machine
abbrev pub IsState : Bytes → Type 0
IsState state = (m : Machine) × IsWhole m × (state_of m ≡ state)

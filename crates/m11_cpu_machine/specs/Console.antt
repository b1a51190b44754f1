-- The console, and the addresses of all device registers. The console has a receiver, which holds the last byte that arrived, and a
-- transmitter, which is always ready. Each has a status register and a buffer. (SIMH PDP-11 manual, console terminal.)
use Rattle.std.specs.Prelude.{ℕ, ◌+◌, ◌*◌, ◌==◌, Bool, not, ◌&&◌, if◌then◌else◌, Option, Some, None}
use Rattle.m11_cpu_machine.specs.declared.console.DeviceRegister.{DeviceRegister}
use Rattle.m11_cpu_machine.specs.declared.console.DeviceRegister.TheVariants.{ReceiverStatus, ReceiverBuffer, TransmitterStatus, TransmitterBuffer, ProcessorStatus}
use Rattle.m11_cpu_machine.specs.declared.console.Receiver.{Receiver}
use Rattle.m11_cpu_machine.specs.declared.console.Transmitter.{Transmitter}
use Rattle.m11_cpu_machine.specs.Status.{bit}

-- the device register at this address, if there is one
abbrev pub device_at : ℕ → Option DeviceRegister
device_at address =
    if address == 0o177560 then Some ReceiverStatus
    else if address == 0o177562 then Some ReceiverBuffer
    else if address == 0o177564 then Some TransmitterStatus
    else if address == 0o177566 then Some TransmitterBuffer
    else if address == 0o177776 then Some ProcessorStatus
    else None

-- whether to ask for a byte: there is no unread one, and the input has not ended
abbrev pub is_waiting : Receiver → Bool
is_waiting receiver = not receiver.is_done && not receiver.has_ended

-- the receiver's status: done in bit 7, interrupt enable in bit 6, which is stored but raises no interrupt
abbrev pub receiver_bits : Receiver → ℕ
receiver_bits receiver = bit receiver.is_done * 0o200 + bit receiver.is_enabled * 0o100

abbrev pub transmitter_bits : Transmitter → ℕ
transmitter_bits transmitter = 0o200 + bit transmitter.is_enabled * 0o100

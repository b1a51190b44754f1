-- Reading and writing at an address: the memory, the console's four registers, and the processor status word. (PDP-11/40 Processor
-- Handbook, "Addressing", "Processor traps"; SIMH PDP-11 manual, console terminal. Two things are this project's own: that the
-- transmitter's buffer reads as 0, and that no address past the end of memory has any other register.)
use Rattle.std.specs.Prelude.{ℕ, ◌-◌, ◌/◌, ◌%◌, ◌==◌, Bool, true, false, nat_lt, if◌then◌else◌, length, Option, Some, None, Result, Ok, Err}
use Rattle.m11_cpu_machine.specs.declared.abort.Abort.{Abort}
use Rattle.m11_cpu_machine.specs.declared.abort.Abort.TheVariants.{Traps, Stops}
use Rattle.m11_cpu_machine.specs.declared.abort.Vector.TheVariants.{BusError}
use Rattle.m11_cpu_machine.specs.declared.stop.LastingStop.TheVariants.{InputFault, OutputFault}
use Rattle.m11_cpu_machine.specs.declared.machine.Machine.{Machine}
use Rattle.m11_cpu_machine.specs.Dialogue.{Comes, Asks, Sends, Reply, Gives, Ends, Fails}
use Rattle.m11_cpu_machine.specs.Acts.{Act, value, ◌>>=◌}
use Rattle.m11_cpu_machine.specs.Console.{device_at, is_waiting, receiver_bits, transmitter_bits}
use Rattle.m11_cpu_machine.specs.declared.console.DeviceRegister.{DeviceRegister}
use Rattle.m11_cpu_machine.specs.declared.console.DeviceRegister.TheVariants.{ReceiverStatus, ReceiverBuffer, TransmitterStatus, TransmitterBuffer, ProcessorStatus}
use Rattle.m11_cpu_machine.specs.Memory.{byte_at, word_at, with_byte, with_word}
use Rattle.m11_cpu_machine.specs.Status.{psw_of, status_written}

abbrev pub is_odd : ℕ → Bool
is_odd address = address % 2 == 1

abbrev pub is_inside : ℕ → Machine → Bool
is_inside address m = nat_lt address (length m.memory)

-- the effect of the input's reply: a byte is stored in the receiver and sets done, the end is recorded, and a failure stops the machine
abbrev pub received : Reply → Act (Unit {0})
received (Gives byte) m = Comes (Ok tt, record m { receiver = record m.receiver { byte = byte; is_done = true } })
received Ends m = Comes (Ok tt, record m { receiver = record m.receiver { has_ended = true } })
received Fails m = Comes (Err (Stops InputFault), m)

unfoldable pub receive : Act (Unit {0})
receive m = Asks (λ reply. received reply m)

-- the receiver's status: done in bit 7, interrupt enable in bit 6; if done is clear and the input has not ended, a byte is asked for
-- first, and a failure of the input stops the machine
unfoldable pub receiver_status : Act ℕ
receiver_status m =
    if is_waiting m.receiver then (receive >>= λ _. value (λ n. receiver_bits n.receiver)) m
    else Comes (Ok (receiver_bits m.receiver), m)

-- the receiver's byte, and the machine with done cleared; the byte stays in the receiver
abbrev pub read_receiver : Machine → ℕ × Machine
read_receiver m = (m.receiver.byte, record m { receiver = record m.receiver { is_done = false } })

-- a read of a device register: its value, and the effect that the read has; a bus error if there is no register
abbrev pub load_register : Option DeviceRegister → Act ℕ
load_register (Some ReceiverStatus) m = receiver_status m
load_register (Some ReceiverBuffer) m = Comes (Ok (read_receiver m).0, (read_receiver m).1)
load_register (Some TransmitterStatus) m = Comes (Ok (transmitter_bits m.transmitter), m)
load_register (Some TransmitterBuffer) m = Comes (Ok 0, m)
load_register (Some ProcessorStatus) m = Comes (Ok (psw_of m.status), m)
load_register None m = Comes (Err (Traps BusError), m)

unfoldable pub load_device : ℕ → Act ℕ
load_device address = load_register (device_at address)

-- the high byte of a device register, which is 0; a bus error if there is no register
abbrev pub high_byte_of : Option DeviceRegister → Result ℕ Abort
high_byte_of (Some register) = Ok 0
high_byte_of None = Err (Traps BusError)

abbrev pub load_odd : ℕ → Result ℕ Abort
load_odd address = high_byte_of (device_at (address - address % 2))

unfoldable pub load_word : ℕ → Act ℕ
load_word address m =
    if is_odd address then Comes (Err (Traps BusError), m)
    else if is_inside address m then Comes (Ok (word_at m.memory address), m)
    else load_device address m

unfoldable pub load_byte : ℕ → Act ℕ
load_byte address m =
    if is_inside address m then Comes (Ok (byte_at m.memory address), m)
    else if is_odd address then Comes (load_odd address, m)
    else load_device address m

-- ---- writing

abbrev pub sent : Bool → Act (Unit {0})
sent true m = Comes (Ok tt, m)
sent false m = Comes (Err (Stops OutputFault), m)

unfoldable pub send : ℕ → Act (Unit {0})
send byte m = Sends byte (λ taken. sent taken m)

abbrev pub is_enabling : ℕ → Bool
is_enabling value = value / 0o100 % 2 == 1

-- the effect of a write to a device register: a status register of the console stores only bit 6, the receiver's buffer ignores the write,
-- the transmitter's buffer sends the low byte, and the processor status becomes the low byte, but keeps its T; a bus error if there is no
-- register
abbrev pub store_register : Option DeviceRegister → ℕ → Act (Unit {0})
store_register (Some ReceiverStatus) value m =
    Comes (Ok tt, record m { receiver = record m.receiver { is_enabled = is_enabling value } })
store_register (Some ReceiverBuffer) value m = Comes (Ok tt, m)
store_register (Some TransmitterStatus) value m =
    Comes (Ok tt, record m { transmitter = record { is_enabled = is_enabling value } })
store_register (Some TransmitterBuffer) value m = send (value % 256) m
store_register (Some ProcessorStatus) value m = Comes (Ok tt, record m { status = status_written value m.status })
store_register None value m = Comes (Err (Traps BusError), m)

unfoldable pub store_device : ℕ → ℕ → Act (Unit {0})
store_device address = store_register (device_at address)

-- a write to the high byte of a device register, which has no effect; a bus error if there is no register
abbrev pub nothing_taken : Option DeviceRegister → Result (Unit {0}) Abort
nothing_taken (Some register) = Ok tt
nothing_taken None = Err (Traps BusError)

abbrev pub store_odd : ℕ → Result (Unit {0}) Abort
store_odd address = nothing_taken (device_at (address - address % 2))

unfoldable pub store_word : ℕ → ℕ → Act (Unit {0})
store_word address value m =
    if is_odd address then Comes (Err (Traps BusError), m)
    else if is_inside address m then Comes (Ok tt, record m { memory = with_word address value m.memory })
    else store_device address value m

unfoldable pub store_byte : ℕ → ℕ → Act (Unit {0})
store_byte address value m =
    if is_inside address m then Comes (Ok tt, record m { memory = with_byte address value m.memory })
    else if is_odd address then Comes (store_odd address, m)
    else store_device address value m

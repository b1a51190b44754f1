-- What the caller's memory has after a load and after a slice of a run. (This project's own.)
use Rattle.std.specs.Prelude.{◌≡◌, ℕ, ◌+◌, ◌*◌, Bool, Some, Ok, Err, length}
use Rattle.m11_base.specs.Devices.{Bytes}
use Rattle.m11_base.specs.Feed.{Ends}
use Rattle.m11_base.specs.declared.operand.Register.TheVariants.{Pc}
use Rattle.m11_cpu.specs.Simulation.{Loaded}
use Rattle.m11_cpu.specs.declared.fault.LoadFault.{LoadFault}
use Rattle.m11_cpu_machine.specs.Dialogue.{Input, input_of}
use Rattle.m11_cpu_machine.specs.Machine.{with_register}
use Rattle.m11_cpu_machine.specs.Status.{bit}
use Rattle.m11_cpu_machine.specs.Stop.{stop_number}
use Rattle.m11_cpu_machine.specs.declared.machine.Machine.{Machine}
use Rattle.m11_cpu_states.specs.Slices.{Sliced}
use Rattle.m11_cpu_states.specs.States.{state_of}
use Rattle.m11_cpu_states.specs.declared.slices.Slice.{Slice}
use Rattle.m11_web.specs.Answers.{handed_over}
use Rattle.m11_web.specs.declared.running.Told.{Told}

-- a new machine with so many words of memory loaded this tape, whose program starts here, and this is its state with the program counter there
abbrev pub Starts : ℕ → Bytes → ℕ → Bytes → Type 0
Starts words tape start state = (m : Machine) × (tape' : Input)
    × Loaded words (input_of (Some (record { bytes = tape; ending = Ends })) 0) tape' m (Ok start)
    × (state ≡ state_of (with_register Pc start m))

-- a new machine with so many words of memory can't load this tape, for this fault
abbrev pub Fails : ℕ → Bytes → Type 0
Fails words tape = (m : Machine) × (tape' : Input) × (fault : LoadFault)
    × Loaded words (input_of (Some (record { bytes = tape; ending = Ends })) 0) tape' m (Err fault)

-- the caller's memory, whose length says how many words the machine has, gets the state of a machine that loaded this tape
abbrev pub Loads : Bytes → Bytes → Bytes → ℕ → Type 0
Loads tape old new start = (words : ℕ) × (length old ≡ 28 + 2 * words) × Starts words tape start new

-- a machine with as many words as the length of the caller's memory says can't load this tape
abbrev pub FailsToLoad : Bytes → Bytes → Type 0
FailsToLoad tape state = (words : ℕ) × (length state ≡ 28 + 2 * words) × Fails words tape

-- what a slice tells
abbrev pub Tells : Slice → Told → Type 0
Tells slice told = (told.stop ≡ stop_number slice.stop) × (told.steps ≡ slice.steps) × (told.waits ≡ bit slice.waits)
    × (told.unread ≡ length slice.unread.items) × (told.printed ≡ length slice.printed.items)

-- the caller's memory gets what a slice of the run leaves: the state, what was printed, and what the slice tells
abbrev pub GoesOn : Bool → ℕ → Bytes → Bytes → Bytes → Bytes → Bytes → Told → Type 0
GoesOn is_over limit typed state state' printed printed' told = (slice : Slice) × Sliced is_over limit state typed slice
    × (state' ≡ slice.state.items) × (printed' ≡ handed_over slice.printed.items printed) × Tells slice told

-- Slices of a run: some steps of the machine of a state, with what was typed so far. (This project's own.)
use Rattle.std.specs.Prelude.{◌≡◌, ℕ, ◌+◌, ◌<◌, ◌⊎◌, Bool, true, false, [], Some}
use Rattle.m11_base.specs.Devices.{Bytes}
use Rattle.m11_cpu_machine.specs.Dialogue.{Devices, Does, both}
use Rattle.m11_cpu.specs.Runs.{run_counted}
use Rattle.m11_cpu.specs.declared.runs.Ran.{Ran}
use Rattle.m11_cpu_machine.specs.declared.machine.Machine.{Machine}
use Rattle.m11_cpu_machine.specs.declared.stop.Stop.TheVariants.{InputFault}
use Rattle.m11_cpu_states.specs.declared.slices.Slice.{Slice}
use Rattle.m11_cpu_states.specs.States.{state_of}
use Rattle.m11_cpu_states.specs.Typed.{typed}

-- the console, with these bytes to read and these printed; and how often each side has failed
abbrev pub console : Bool → Bytes → ℕ → Bytes → ℕ → Devices
console is_over unread failures printed losses = both (typed is_over unread) failures (Some printed) losses

-- The machine of a state makes steps up to a stop or the limit, with these bytes typed. The run has this outcome; it leaves the machine of
-- another state, and these bytes unread; and it prints these.
pub record Steps (is_over : Bool) (limit : ℕ) (state typed : Bytes) (ran : Ran) (state' unread printed : Bytes) : Type 0 where
  pub machine : Machine
  pub machine' : Machine
  pub failures : ℕ
  pub losses : ℕ
  pub given : state_of machine ≡ state
  pub runs : Does (run_counted limit machine) (console is_over typed 0 [] 0)
      (console is_over unread failures printed losses) (ran, machine')
  pub left : state' ≡ state_of machine'

-- the steps up to this limit end with one that asks for a byte beyond those typed, after so many steps
abbrev pub Asks : ℕ → ℕ → Bytes → Bytes → Type 0
Asks limit count state typed = (state' : Bytes) × (unread : Bytes) × (printed : Bytes)
    × Steps false limit state typed (record { stop = InputFault; steps = count + 1 }) state' unread printed

-- a slice has what the steps up to this limit leave
abbrev pub Makes : Bool → ℕ → Bytes → Bytes → Slice → Type 0
Makes is_over limit state typed slice = Steps is_over limit state typed (record { stop = slice.stop; steps = slice.steps })
    slice.state.items slice.unread.items slice.printed.items

-- a slice of a run: the steps up to the limit; or the steps up to a lower one, since the next step asks for a byte that isn't typed yet
abbrev pub Sliced : Bool → ℕ → Bytes → Bytes → Slice → Type 0
Sliced is_over limit state typed slice =
    ((slice.waits ≡ false) × Makes is_over limit state typed slice)
    ⊎ ((count : ℕ) × (slice.waits ≡ true) × (is_over ≡ false) × (count < limit) × Makes is_over count state typed slice
    × Asks limit count state typed)

-- Where a traced run stops though an untraced run would go on: before the instruction at a breakpoint that the program counter has reached
-- as often as its count says; and after a step that changed a watched word, if steps have done so as often as its count says. (This
-- project's own.)
use Rattle.std.specs.Prelude.{◌≡◌, ℕ, ◌+◌, ◌-◌, ◌==◌, ◌&&◌, if◌then◌else◌, Bool, true, false, not, List, [], ◌∷◌, Option, Some, None, ⊤}
use Rattle.std.specs.List.{list_any}
use Rattle.m11_base.specs.Devices.{Bytes}
use Rattle.m11_cpu_machine.specs.Memory.{word_at}
use Rattle.m11_cpu_machine.specs.declared.machine.Machine.{Machine}
use Rattle.m11_cpu_machine.specs.declared.stop.Turn.{Turn}
use Rattle.m11_cpu_machine.specs.declared.stop.Turn.TheVariants.{Next, Stopped}
use Rattle.m11_trace.specs.Ranges.{even_of}
use Rattle.m11_trace.specs.Shots.{counter_of}
use Rattle.m11_trace.specs.Taken.{TracedStep}
use Rattle.m11_trace.specs.declared.stops.CountedAddress.{CountedAddress}
use Rattle.m11_trace.specs.declared.stops.Stops.{Stops}

-- how many of these steps began at this address
abbrev pub times_at : ℕ → List TracedStep → ℕ
times_at address [] = 0
times_at address (taken ∷ earlier) = times_at address earlier + (if address == counter_of taken.before then 1 else 0)

-- whether the program counter is at a breakpoint after these steps, and has reached it as often as its count says
abbrev pub is_due : List TracedStep → Machine → CountedAddress → Bool
is_due earlier m breakpoint =
    breakpoint.address == counter_of m && times_at breakpoint.address earlier + 1 == breakpoint.count

-- whether one of the breakpoints stops the run after these steps
abbrev pub is_at : Stops → List TracedStep → Machine → Bool
is_at stops earlier m = list_any (is_due earlier m) stops.breakpoints.items

-- no breakpoint stopped the run before any of these steps, which are listed latest first
abbrev pub AreElsewhere : Stops → List TracedStep → Type 0
AreElsewhere stops [] = ⊤
AreElsewhere stops (taken ∷ earlier) = (is_at stops earlier taken.before ≡ false) × AreElsewhere stops earlier

-- ---- waiting breakpoints, each with the number of times that it must still be reached to stop the run

-- whether a breakpoint stops the run at this address now: the address is the breakpoint's own, and its count is down to 1
abbrev pub is_last_at : ℕ → CountedAddress → Bool
is_last_at address breakpoint = breakpoint.address == address && breakpoint.count == 1

-- a breakpoint after the program counter has reached this address: if the address is the breakpoint's own, the count is one lower, but
-- not below 0
abbrev pub counted_at : ℕ → CountedAddress → CountedAddress
counted_at address breakpoint =
    if breakpoint.address == address then record breakpoint { count = breakpoint.count - 1 } else breakpoint

-- ---- watched words

-- the word that contains the byte at this address; 0 if it lies past the end of memory
abbrev pub watched_word : ℕ → Bytes → ℕ
watched_word address memory = word_at memory (even_of address)

-- whether a step changed the word that contains the byte at this address
abbrev pub has_changed_at : ℕ → TracedStep → Bool
has_changed_at address taken =
    not (watched_word address taken.before.memory == watched_word address taken.later.memory)

-- how many of these steps changed that word
abbrev pub changes_at : ℕ → List TracedStep → ℕ
changes_at address [] = 0
changes_at address (taken ∷ earlier) = changes_at address earlier + (if has_changed_at address taken then 1 else 0)

-- whether a step after these earlier ones changed a watched word, and is the last of as many changes of it as its count says
abbrev pub is_counted_change : List TracedStep → TracedStep → CountedAddress → Bool
is_counted_change earlier taken watched =
    has_changed_at watched.address taken && changes_at watched.address earlier + 1 == watched.count

-- the address of the first of these that passes a test, if one does
abbrev pub first_address : (CountedAddress → Bool) → List CountedAddress → Option ℕ
first_address test [] = None
first_address test (watched ∷ others) = if test watched then Some watched.address else first_address test others

-- whether the run goes on after a step
abbrev pub goes_on : Turn → Bool
goes_on Next = true
goes_on (Stopped stop) = false

-- the address of the watched word whose change stops the run after a step, though an untraced run would go on; the first one in the order of
-- `stops`, if the step stops the run by several; None if it doesn't
abbrev pub change_by : Stops → List TracedStep → TracedStep → Option ℕ
change_by stops earlier taken =
    if goes_on taken.turn then first_address (is_counted_change earlier taken) stops.watched.items else None

-- none of these steps, which are listed latest first, stops the run by changing a watched word
abbrev pub AreQuiet : Stops → List TracedStep → Type 0
AreQuiet stops [] = ⊤
AreQuiet stops (taken ∷ earlier) = (change_by stops earlier taken ≡ None) × AreQuiet stops earlier

-- Steps that exchange nothing with the console: they access only registers and plain memory, or test a status register of the console.
-- (This project's own.)
use Rattle.std.specs.Prelude.{◌≡◌, ℕ, zero, suc, false, List, None}
use Rattle.m11_base.specs.Instructions.{meaning}
use Rattle.m11_base.specs.OperationTables.{operation_by_tables}
use Rattle.m11_cpu_machine.specs.Dialogue.{Comes}
use Rattle.m11_cpu_machine.specs.Execution.{execute}
use Rattle.m11_cpu_machine.specs.Steps.{step}
use Rattle.m11_cpu_machine.specs.declared.execution.Ending.TheVariants as ending
use Rattle.m11_cpu_machine.specs.declared.machine.Machine.{Machine}
use Rattle.m11_cpu_machine.specs.declared.stop.Turn.TheVariants.{Next}
use Rattle.m11_cpu_quick.specs.Beside.{shown}
use Rattle.m11_cpu_quick.specs.Near.{Yields}

-- the machine has no lasting stop, and T is clear
abbrev pub QuickRuns : Machine → Type 0
QuickRuns m = (m.stopped ≡ None) × (m.status.trace ≡ false)

-- executing the instruction with this word, at once and without a trap, leads from the first program counter, registers and machine to
-- the second; the instruction isn't RTT, HALT or WAIT; the first program counter is already past the word, and the registers are passed
-- separately from the machine
abbrev pub Executes : ℕ → ℕ → List ℕ → Machine → ℕ → List ℕ → Machine → Type 0
Executes word counter registers m after registers' m' =
    Yields (execute (meaning (operation_by_tables word) word)) (shown counter registers m) ending.Next
    (shown after registers' m')

-- this many steps, none of which stops the machine or exchanges anything with the console, lead from one machine to the other
unfoldable pub StepsAtOnce : ℕ → Machine → Machine → Type 0
StepsAtOnce zero m n = n ≡ m
StepsAtOnce (suc steps) m n = (middle : Machine) × StepsAtOnce steps m middle × (step middle ≡ Comes (Next, n))

-- The rest of a step after its instruction. (PDP-11/40 Processor Handbook, "Trace trap", "Processor traps", RTT. This project's own: the T
-- that the instruction leaves decides whether a trace trap follows.)
use Rattle.std.specs.Prelude.{◌≡◌, ℕ, true, false, List, [], ◌++◌, Ok, Err, Some}
use Rattle.m11_base.specs.Instructions.{instruction_of}
use Rattle.m11_base.specs.declared.instruction.BareOp.TheVariants as bare
use Rattle.m11_base.specs.declared.instruction.Insn.{Insn}
use Rattle.m11_base.specs.declared.instruction.Insn.TheVariants as insn
use Rattle.m11_cpu_machine.specs.Dialogue.{Exchange, Leads}
use Rattle.m11_cpu_machine.specs.Execution.{execute}
use Rattle.m11_cpu_machine.specs.Addressing.{next_word}
use Rattle.m11_cpu_machine.specs.Steps.{instruction, step}
use Rattle.m11_cpu_machine.specs.Stop.{stop_of}
use Rattle.m11_cpu_machine.specs.Traps.{trap}
use Rattle.m11_cpu_machine.specs.declared.abort.Abort.{Abort}
use Rattle.m11_cpu_machine.specs.declared.abort.Abort.TheVariants.{Traps, Stops}
use Rattle.m11_cpu_machine.specs.declared.abort.Vector.TheVariants.{Breakpoint}
use Rattle.m11_cpu_machine.specs.declared.execution.Ending.{Ending}
use Rattle.m11_cpu_machine.specs.declared.machine.Machine.{Machine}
use Rattle.m11_cpu_machine.specs.declared.stop.Stop.TheVariants.{Halt, Wait}
use Rattle.m11_cpu_machine.specs.declared.stop.Turn.{Turn}
use Rattle.m11_cpu_machine.specs.declared.stop.Turn.TheVariants.{Next, Stopped}

-- no further exchange follows, and the step ends with this result and this machine
abbrev pub IsOver : Turn → Machine → List Exchange → Turn × Machine → Type 0
IsOver turn m exchanges came = (exchanges ≡ []) × (came ≡ (turn, m))

-- the trap through 14 follows if the instruction left T set, and nothing if it left T clear
pub record TrapsIfTraced (left : Machine) (exchanges : List Exchange) (came : Turn × Machine) : Type 0 where
  pub traced : left.status.trace ≡ true → Leads (trap Breakpoint left) exchanges came
  pub untraced : left.status.trace ≡ false → IsOver Next left exchanges came

-- after an instruction that wasn't aborted, the rest of the step is this: nothing after RTT, HALT and WAIT, whatever T is; after any other
-- instruction the trace trap if T is set, and otherwise nothing
abbrev pub Follows : Insn → Machine → List Exchange → Turn × Machine → Type 0
Follows (insn.Bare bare.Rtt) left exchanges came = IsOver Next left exchanges came
Follows (insn.Bare bare.Halt) left exchanges came = IsOver (Stopped Halt) left exchanges came
Follows (insn.Bare bare.Wait) left exchanges came = IsOver (Stopped Wait) left exchanges came
Follows other left exchanges came = TrapsIfTraced left exchanges came

-- after an abort only its own trap or its stop follows
abbrev pub FollowsAbort : Abort → Machine → List Exchange → Turn × Machine → Type 0
FollowsAbort (Traps vector) left exchanges came = Leads (trap vector left) exchanges came
FollowsAbort (Stops stop) left exchanges came =
    IsOver (Stopped (stop_of stop)) (record left { stopped = Some stop }) exchanges came

-- if the instruction of a step is read and ends without an abort, the rest of the step is as `Follows` says
abbrev pub InstructionEnds : Machine → Type 0
InstructionEnds m = (word : ℕ) (fetched left : Machine) (ending : Ending) (first second third : List Exchange)
    (came : Turn × Machine) → Leads (next_word m) first (Ok word, fetched)
    → Leads (execute (instruction_of word) fetched) second (Ok ending, left)
    → Leads (step m) ((first ++ second) ++ third) came → Follows (instruction_of word) left third came

-- if the instruction of a step is aborted, while it is read or later, the rest of the step is as `FollowsAbort` says
abbrev pub InstructionAborts : Machine → Type 0
InstructionAborts m = (abort : Abort) (left : Machine) (first second : List Exchange) (came : Turn × Machine)
    → Leads (instruction m) first (Err abort, left) → Leads (step m) (first ++ second) came
    → FollowsAbort abort left second came

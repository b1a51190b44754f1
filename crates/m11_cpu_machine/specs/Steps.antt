-- Steps: one instruction each, with its traps. (PDP-11/40 Processor Handbook, "Processor traps", "Trace trap". This project's own:
-- the T that the instruction leaves, and not the T before the instruction, decides whether a trace trap follows.)
use Rattle.std.specs.Prelude.{Option, Some, None, Result, Ok, Err, if◌then◌else◌}
use Rattle.m11_base.specs.Instructions.{instruction_of}
use Rattle.m11_cpu_machine.specs.Acts.{Act, ◌>>=◌}
use Rattle.m11_cpu_machine.specs.Dialogue.{Dialogue, Comes, after}
use Rattle.m11_cpu_machine.specs.Execution.{execute}
use Rattle.m11_cpu_machine.specs.Addressing.{next_word}
use Rattle.m11_cpu_machine.specs.Traps.{stopped_by, trap}
use Rattle.m11_cpu_machine.specs.declared.abort.Abort.{Abort}
use Rattle.m11_cpu_machine.specs.declared.abort.Abort.TheVariants.{Traps, Stops}
use Rattle.m11_cpu_machine.specs.declared.abort.Vector.TheVariants.{Breakpoint}
use Rattle.m11_cpu_machine.specs.declared.execution.Ending.{Ending}
use Rattle.m11_cpu_machine.specs.declared.execution.Ending.TheVariants as ending
use Rattle.m11_cpu_machine.specs.declared.machine.Machine.{Machine}
use Rattle.m11_cpu_machine.specs.Stop.{stop_of}
use Rattle.m11_cpu_machine.specs.declared.stop.LastingStop.{LastingStop}
use Rattle.m11_cpu_machine.specs.declared.stop.Stop.TheVariants.{Halt, Wait}
use Rattle.m11_cpu_machine.specs.declared.stop.Turn.{Turn}
use Rattle.m11_cpu_machine.specs.declared.stop.Turn.TheVariants.{Next, Stopped}

-- the word at the program counter is read, and its instruction executed
unfoldable pub instruction : Act Ending
instruction = next_word >>= λ word. execute (instruction_of word)

-- the turn after a completed instruction that isn't RTT, HALT or WAIT: a trace trap if T is set, otherwise the next instruction
unfoldable pub ended : Machine → Dialogue (Turn × Machine)
ended m = if m.status.trace then trap Breakpoint m else Comes (Next, m)

-- the turn after an instruction: the next one follows, a trap is taken, or the machine stops; no trace trap follows RTT, HALT, WAIT, a
-- trap or a stop
unfoldable pub turned : Result Ending Abort → Machine → Dialogue (Turn × Machine)
turned (Ok ending.Next) m = ended m
turned (Ok ending.Untraced) m = Comes (Next, m)
turned (Ok ending.Halts) m = Comes (Stopped Halt, m)
turned (Ok ending.Waits) m = Comes (Stopped Wait, m)
turned (Err (Traps vector)) m = trap vector m
turned (Err (Stops stop)) m = Comes (stopped_by stop m)

-- a machine with a lasting stop returns that stop again; any other executes an instruction
abbrev pub step_unless : Option LastingStop → Machine → Dialogue (Turn × Machine)
step_unless (Some stop) m = Comes (Stopped (stop_of stop), m)
step_unless None m = after (instruction m) (λ came. turned came.0 came.1)

unfoldable pub step : Machine → Dialogue (Turn × Machine)
step m = step_unless m.stopped m

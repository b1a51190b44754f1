-- Traps. (PDP-11/40 Processor Handbook, "Processor traps". Two things are this project's own: that the processor status and the
-- program counter are pushed before the vector is read, and that a trap whose push fails stops the machine.)
use Rattle.std.specs.Prelude.{ℕ, ◌+◌, Some, Result, Ok, Err}
use Rattle.m11_base.specs.declared.operand.Register.TheVariants.{Pc}
use Rattle.m11_cpu_machine.specs.Acts.{Act, ◌>>=◌}
use Rattle.m11_cpu_machine.specs.Dialogue.{Dialogue, Comes, after}
use Rattle.m11_cpu_machine.specs.Jumps.{push}
use Rattle.m11_cpu_machine.specs.Machine.{register_of, with_register}
use Rattle.m11_cpu_machine.specs.Memory.{word_at}
use Rattle.m11_cpu_machine.specs.Status.{psw_of, status_of}
use Rattle.m11_cpu_machine.specs.declared.abort.Abort.{Abort}
use Rattle.m11_cpu_machine.specs.declared.abort.Abort.TheVariants.{Traps, Stops}
use Rattle.m11_cpu_machine.specs.declared.abort.Vector.{Vector}
use Rattle.m11_cpu_machine.specs.declared.abort.Vector.TheVariants.{BusError, Reserved, Breakpoint, InputOutput, Emulator, Trap}
use Rattle.m11_cpu_machine.specs.declared.machine.Machine.{Machine}
use Rattle.m11_cpu_machine.specs.Stop.{stop_of}
use Rattle.m11_cpu_machine.specs.declared.stop.LastingStop.{LastingStop}
use Rattle.m11_cpu_machine.specs.declared.stop.LastingStop.TheVariants.{StackFault}
use Rattle.m11_cpu_machine.specs.declared.stop.Turn.{Turn}
use Rattle.m11_cpu_machine.specs.declared.stop.Turn.TheVariants.{Next, Stopped}

-- the address of a vector: the trap's program counter is there, and its processor status in the next word
abbrev pub vector_address : Vector → ℕ
vector_address BusError = 0o4
vector_address Reserved = 0o10
vector_address Breakpoint = 0o14
vector_address InputOutput = 0o20
vector_address Emulator = 0o30
vector_address Trap = 0o34

-- the program counter and the processor status are loaded from a vector
abbrev pub vectored : Vector → Machine → Machine
vectored vector m = record (with_register Pc (word_at m.memory (vector_address vector)) m) {
  status = status_of (word_at m.memory (vector_address vector + 2));
}

-- the machine stops for good, and returns this stop
abbrev pub stopped_by : LastingStop → Machine → Turn × Machine
stopped_by stop m = (Stopped (stop_of stop), record m { stopped = Some stop })

unfoldable pub push_state : Act (Unit {0})
push_state m = (push (psw_of m.status) >>= λ _ n. push (register_of Pc n) n) m

-- the vector is read after the pushes, which may have overwritten it; if a push would trap, the machine stops with STACK FAULT; if the
-- output fails at a push, the machine stops with OUTPUT FAULT
abbrev pub trap_pushed : Vector → Result (Unit {0}) Abort → Machine → Dialogue (Turn × Machine)
trap_pushed vector (Ok done) m = Comes (Next, vectored vector m)
trap_pushed vector (Err (Traps other)) m = Comes (stopped_by StackFault m)
trap_pushed vector (Err (Stops stop)) m = Comes (stopped_by stop m)

unfoldable pub trap : Vector → Machine → Dialogue (Turn × Machine)
trap vector m = after (push_state m) (λ pushed. trap_pushed vector pushed.0 pushed.1)

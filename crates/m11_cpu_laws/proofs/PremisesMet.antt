-- Machines of a few bytes that meet the premises of laws.
use Rattle.std.proofs.Common.{ℕ, ◌<◌, false, List, [], ◌∷◌, Some, None, refl, arith}
use Rattle.m11_base.specs.Instructions.{row_of, rows}
use Rattle.m11_base.specs.declared.operand.Mode.TheVariants as mode
use Rattle.m11_base.specs.declared.operand.Register.{Register}
use Rattle.m11_base.specs.declared.operand.Register.TheVariants.{R0, R1, R2, R3, R4, R5, Sp, Pc}
use Rattle.m11_cpu_machine.specs.Access.{load_device, load_word, receive, receiver_status, send, store_byte, store_device, store_word}
use Rattle.m11_cpu_machine.specs.Acts.{value, ◌>>=◌}
use Rattle.m11_cpu_machine.specs.Addressing.{deferred, fetch, fetch_operand, location_of, next_word, store}
use Rattle.m11_cpu_machine.specs.Dialogue.{Leads}
use Rattle.m11_cpu_machine.specs.DoubleOperands.{double, double_at, move_to, store_moved}
use Rattle.m11_cpu_machine.specs.Execution.{execute, numbered}
use Rattle.m11_cpu_machine.specs.Jumps.{push}
use Rattle.m11_cpu_machine.specs.Machine.{advanced, register_of, with_register}
use Rattle.m11_cpu_machine.specs.Memory.{with_word}
use Rattle.m11_cpu.specs.Runs.{run_counted}
use Rattle.m11_cpu_machine.specs.SingleOperands.{single, test_operand}
use Rattle.m11_cpu_machine.specs.Status.{status_of}
use Rattle.m11_cpu_machine.specs.Steps.{ended, instruction, step, turned}
use Rattle.m11_cpu_machine.specs.Traps.{push_state, trap}
use Rattle.m11_cpu_machine.specs.declared.machine.Machine.{Machine}
use Rattle.m11_cpu_machine.specs.declared.stop.LastingStop.TheVariants.{InputFault, OutputFault, StackFault}
use Rattle.m11_cpu_laws.specs.Witnesses.{AsksInVain, RunIsJoined, SendsInVain, StatusIsStored, StepIsTraced, TrapIsMade, TrapsInVain}

-- a machine at address 0 with these bytes, this stack pointer and this status
abbrev small : List ℕ → ℕ → ℕ → Machine
small memory stack bits = record {
  memory = memory;
  registers = 0 ∷ 0 ∷ 0 ∷ 0 ∷ 0 ∷ 0 ∷ stack ∷ 0 ∷ [];
  status = status_of bits;
  receiver = record { byte = 0; is_done = false; is_enabled = false; has_ended = false };
  transmitter = record { is_enabled = false };
  stopped = None;
}

-- TST @#177560 makes a request to an input that fails
pub asks_in_vain : AsksInVain
unfolding Leads step instruction next_word load_word load_device ◌>>=◌ execute single test_operand fetch_operand location_of deferred fetch receiver_status receive value turned row_of rows
asks_in_vain =
    let m = small (0o337 ∷ 0o13 ∷ 0o160 ∷ 0o377 ∷ []) 0 0 in
    record {
      machine = m;
      left = record (advanced Pc 2 (advanced Pc 2 m)) { stopped = Some InputFault };
      makes_steps = refl;
      leads = refl;
    }

-- MOVB R0,@#177566 sends a byte that is refused
pub sends_in_vain : SendsInVain
unfolding Leads step instruction next_word load_word load_device ◌>>=◌ execute double double_at move_to store_moved store store_byte store_device send fetch_operand location_of deferred fetch turned row_of rows
sends_in_vain =
    let m = small (0o37 ∷ 0o220 ∷ 0o166 ∷ 0o377 ∷ []) 0 0 in
    record {
      machine = m;
      left = record (advanced Pc 2 (advanced Pc 2 m)) { stopped = Some OutputFault };
      makes_steps = refl;
      leads = (refl, refl);
    }

-- EMT can't push, since the stack pointer is odd
pub traps_in_vain : TrapsInVain
unfolding Leads step instruction next_word load_word ◌>>=◌ execute numbered turned trap push_state push store_word row_of rows
traps_in_vain =
    let m = small (0 ∷ 0o210 ∷ []) 3 0 in
    record {
      machine = m;
      left = record (with_register Sp 1 (advanced Pc 2 m)) { stopped = Some StackFault };
      makes_steps = refl;
      leads = refl;
    }

-- a machine at a NOP, with T set and room on the stack; the vector of the trace trap is outside memory, and the trap reads 0 there
abbrev tracing : Machine
tracing = small (0o240 ∷ 0 ∷ 0 ∷ 0 ∷ 0 ∷ 0 ∷ 0 ∷ 0 ∷ []) 0o10 0o20

pub step_is_traced : StepIsTraced
unfolding step instruction next_word load_word ◌>>=◌ execute turned ended trap push_state push store_word row_of rows
step_is_traced = record {
  machine = tracing;
  left = record (small (0o240 ∷ 0 ∷ 0 ∷ 0 ∷ 2 ∷ 0 ∷ 0o20 ∷ 0 ∷ []) 4 0) { stopped = None };
  makes_steps = refl;
  traced = refl;
  leads = refl;
}

-- two NOPs: a run of one step reaches its limit after the first, and another run continues with the second
pub run_is_joined : RunIsJoined
unfolding Leads run_counted step instruction next_word load_word ◌>>=◌ execute turned ended row_of rows
run_is_joined =
    let m = small (0o240 ∷ 0 ∷ 0o240 ∷ 0 ∷ []) 0 0 in
    record {
      machine = m;
      middle = advanced Pc 2 m;
      last = advanced Pc 2 (advanced Pc 2 m);
      first_part = refl;
      second_part = refl;
    }

-- MOV #17,@#177776, after its code was read, fetches its source and finds its destination at the address of the status word
pub status_is_stored : StatusIsStored
unfolding fetch_operand location_of fetch load_word deferred ◌>>=◌
status_is_stored =
    let m = small (0o17 ∷ 0 ∷ 0o376 ∷ 0o377 ∷ []) 0 0 in
    record {
      source = record { mode = mode.Autoincrement; register = Pc };
      destination = record { mode = mode.AutoincrementDeferred; register = Pc };
      machine = m;
      fetched = advanced Pc 2 m;
      formed = advanced Pc 2 (advanced Pc 2 m);
      value = 0o17;
      source_fetched = refl;
      destination_formed = refl;
      past_memory = omega arith;
    }

-- a machine with an EMT at 0, whose vector at octal 30 leads to the RTI at 2
abbrev trapping : Machine
trapping =
    small (0 ∷ 0o210 ∷ 2 ∷ 0 ∷ 0 ∷ 0 ∷ 0 ∷ 0 ∷ 0 ∷ 0 ∷ 0 ∷ 0 ∷ 0 ∷ 0 ∷ 0 ∷ 0 ∷ 0 ∷ 0 ∷ 0 ∷ 0 ∷ 0 ∷ 0 ∷ 0 ∷ 0
    ∷ 2 ∷ 0 ∷ 0 ∷ 0 ∷ []) 0o20 0

trapping_words : (register : Register) → register_of register trapping < 0o200000
trapping_words R0 = omega arith
trapping_words R1 = omega arith
trapping_words R2 = omega arith
trapping_words R3 = omega arith
trapping_words R4 = omega arith
trapping_words R5 = omega arith
trapping_words Sp = omega arith
trapping_words Pc = omega arith

pub trap_is_made : TrapIsMade
unfolding step instruction next_word load_word ◌>>=◌ execute numbered turned trap push_state push store_word row_of rows
trap_is_made = record {
  machine = trapping;
  trapped = record (with_register Pc 2 (with_register Sp 0o14 trapping)) {
    memory = with_word 0o14 2 (with_word 0o16 0 trapping.memory);
  };
  running = record { not_stopped = refl; not_traced = refl; registers = refl; words = trapping_words };
  room = ((refl, omega arith), (refl, omega arith));
  code = ((refl, omega arith), refl);
  leads = refl;
  handler = ((refl, omega arith), refl);
}

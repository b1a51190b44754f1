-- The registers that a trap and a step leave unchanged.
use Rattle.std.proofs.Common.{◌≡◌, ◌≢◌, ℕ, Bool, true, false, cond, List, [], ◌∷◌, ◌++◌, Option, None, Result, Ok, Err, refl, ◌∙◌, subst}
use Rattle.m11_base.specs.Instructions.{instruction_of}
use Rattle.m11_base.specs.Operand.{register_number}
use Rattle.m11_base.specs.declared.instruction.Insn.{Insn}
use Rattle.m11_base.specs.declared.operand.Register.{Register}
use Rattle.m11_base.specs.declared.operand.Register.TheVariants.{Pc, Sp}
use Rattle.m11_cpu_machine.specs.Acts.{unless_aborted, ◌>>=◌}
use Rattle.m11_cpu_machine.specs.Dialogue.{Comes, Exchange, Leads}
use Rattle.m11_cpu_machine.specs.Execution.{execute}
use Rattle.m11_cpu_machine.specs.Jumps.{push}
use Rattle.m11_cpu_machine.specs.Machine.{register_of}
use Rattle.m11_cpu_machine.specs.Addressing.{next_word}
use Rattle.m11_cpu_machine.specs.Status.{psw_of}
use Rattle.m11_cpu_machine.specs.Steps.{ended, instruction, step, step_unless, turned}
use Rattle.m11_cpu_machine.specs.Traps.{push_state, stopped_by, trap, trap_pushed}
use Rattle.m11_cpu_machine.specs.declared.abort.Abort.{Abort}
use Rattle.m11_cpu_machine.specs.declared.abort.Abort.TheVariants.{Traps, Stops}
use Rattle.m11_cpu_machine.specs.declared.abort.Vector.{Vector}
use Rattle.m11_cpu_machine.specs.declared.abort.Vector.TheVariants.{Breakpoint}
use Rattle.m11_cpu_machine.specs.declared.execution.Ending.{Ending}
use Rattle.m11_cpu_machine.specs.declared.execution.Ending.TheVariants as ending
use Rattle.m11_cpu_machine.specs.declared.machine.Machine.{Machine}
use Rattle.m11_cpu_machine.specs.declared.stop.LastingStop.{LastingStop}
use Rattle.m11_cpu_machine.specs.declared.stop.Stop.TheVariants.{Halt, Wait}
use Rattle.m11_cpu_machine.specs.declared.stop.Turn.{Turn}
use Rattle.m11_cpu_machine.specs.declared.stop.Turn.TheVariants.{Next, Stopped}
use Rattle.m11_cpu_laws.specs.Registers.{changed_after, changed_by, changed_by_code, RegistersStay, StepRegisters}
use Rattle.m11_cpu_laws.proofs.Exchanging.{once}
use Rattle.m11_cpu_laws.proofs.Following.{within_more}
use Rattle.m11_cpu_laws.proofs.MemoryPreserved.{none_left, none_right}
use Rattle.m11_cpu_laws.proofs.Parts.{Always, at_after, at_comes, Keeps, keeps_bind, parts}
use Rattle.m11_cpu_laws.proofs.RegistersKept.{code_held, execute_held, Holds, push_held, put}

-- a register that is neither the program counter nor the stack pointer
module _ (r : Register) (held : ℕ) (counts : register_number r ≢ register_number Pc)
    (stacks : register_number r ≢ register_number Sp) where
  state_held : (m : Machine) → Holds r held counts m → Keeps (Holds r held counts) (push_state m)
  unfolding push_state
  state_held m i =
      keeps_bind (Holds r held counts) (push (psw_of m.status)) _ m
      (push_held r held counts (psw_of m.status) m stacks i)
      (λ u n j. push_held r held counts (register_of Pc n) n stacks j)

  pushed_held : (v : Vector) (x : Result (Unit {0}) Abort) (n : Machine) → Holds r held counts n
      → Always (trap_pushed v x n) (λ y. Holds r held counts y.1)
  pushed_held v (Ok done) n i = at_comes (put r held counts Pc _ n counts i)
  pushed_held v (Err (Traps other)) n i = at_comes i
  pushed_held v (Err (Stops stop)) n i = at_comes i

  trap_held : (v : Vector) (m : Machine) → Holds r held counts m → Always (trap v m) (λ y. Holds r held counts y.1)
  unfolding trap
  trap_held v m i =
      at_after (push_state m) (λ pushed. trap_pushed v pushed.0 pushed.1) (λ y. Holds r held counts y.1)
      (λ y. Holds r held counts y.1) (state_held m i) (λ pushed j. pushed_held v pushed.0 pushed.1 j)

-- ---- laws

pub execute_stays : (code : Insn) (m m' : Machine) (came : Result Ending Abort) (es : List Exchange)
    → Leads (execute code m) es (came, m') → RegistersStay (changed_by code) m m'
execute_stays code m m' came es h = record {
  stays = λ r none. (execute_held r (register_of r m) none.0 code m none.1 refl).each es (came, m') h;
}

pub fetch_stays : (m m' : Machine) (came : Result ℕ Abort) (es : List Exchange)
    → Leads (next_word m) es (came, m') → RegistersStay [] m m'
fetch_stays m m' came es h = record {
  stays = λ r none. (code_held r (register_of r m) none.0 m refl).each es (came, m') h;
}

pub trap_stays : (v : Vector) (m m' : Machine) (turn : Turn) (es : List Exchange)
    → Leads (trap v m) es (turn, m') → RegistersStay (register_number Sp ∷ []) m m'
trap_stays v m m' turn es h = record {
  stays = λ r none. (trap_held r (register_of r m) none.0 none.1.0 v m refl).each es (turn, m') h;
}

-- ---- a step, part by part

both_stay : (first second : List ℕ) (m n o : Machine) → RegistersStay first m n → RegistersStay second n o
    → RegistersStay (first ++ second) m o
both_stay first second m n o s t = record {
  stays = λ r none.
      let k = register_number r in
      t.stays r (none.0, none_right k first second none.1) ∙ s.stays r (none.0, none_left k first second none.1);
}

nothing_stays : {A : Type 0} (x came : A) (m m' : Machine) (es : List Exchange)
    → Leads {A = A × Machine} (Comes (x, m)) es (came, m') → RegistersStay [] m m'
nothing_stays {A = A} x came m m' es h =
    once {A = A × Machine} (λ fs y. RegistersStay [] m y.1) (x, m) es (came, m') (record { stays = λ r none. refl }) h

-- whether the code was read or could not be, at most the program counter and the registers of `changed_by_code` are changed
code_stays : (read : Result ℕ Abort) (m n left : Machine) (came : Result Ending Abort) (first es : List Exchange)
    → Leads (next_word m) first (read, n)
    → Leads (unless_aborted (λ word. execute (instruction_of word)) read n) es (came, left)
    → RegistersStay (changed_by_code read) m left
code_stays (Ok word) m n left came first es fetch h =
    both_stay [] (changed_by (instruction_of word)) m n left (fetch_stays m n (Ok word) first fetch)
    (execute_stays (instruction_of word) n left came es h)
code_stays (Err abort) m n left came first es fetch h =
    both_stay [] [] m n left (fetch_stays m n (Err abort) first fetch) (nothing_stays (Err abort) came n left es h)

stopped_stays : (stop : LastingStop) (left m' : Machine) (turn : Turn) (es : List Exchange)
    → Leads {A = Turn × Machine} (Comes (stopped_by stop left)) es (turn, m') → RegistersStay [] left m'
stopped_stays stop left m' turn es h =
    once {A = Turn × Machine} (λ fs y. RegistersStay [] left y.1) (stopped_by stop left) es (turn, m')
    (record { stays = λ r none. refl }) h

traced_stays : (trace : Bool) (left m' : Machine) (turn : Turn) (es : List Exchange)
    → Leads {A = Turn × Machine} (cond trace (trap Breakpoint left) (Comes (Next, left))) es (turn, m')
    → RegistersStay (cond trace (register_number Sp ∷ []) []) left m'
traced_stays true left m' turn es h = trap_stays Breakpoint left m' turn es h
traced_stays false left m' turn es h = nothing_stays Next turn left m' es h

turned_stays : (came : Result Ending Abort) (left m' : Machine) (turn : Turn) (es : List Exchange)
    → Leads (turned came left) es (turn, m') → RegistersStay (changed_after came left) left m'
unfolding turned ended
turned_stays (Ok ending.Next) left m' turn es h = traced_stays left.status.trace left m' turn es h
turned_stays (Ok ending.Untraced) left m' turn es h = nothing_stays Next turn left m' es h
turned_stays (Ok ending.Halts) left m' turn es h = nothing_stays (Stopped Halt) turn left m' es h
turned_stays (Ok ending.Waits) left m' turn es h = nothing_stays (Stopped Wait) turn left m' es h
turned_stays (Err (Traps vector)) left m' turn es h = trap_stays vector left m' turn es h
turned_stays (Err (Stops stop)) left m' turn es h = stopped_stays stop left m' turn es h

going_stays : (m m' : Machine) (turn : Turn) (es : List Exchange) → Leads (step_unless None m) es (turn, m')
    → StepRegisters m es m'
unfolding instruction ◌>>=◌
going_stays m m' turn es h =
    let q = parts (instruction m) (λ came. turned came.0 came.1) es (turn, m') h in
    let f = parts (next_word m) (λ came. unless_aborted (λ word. execute (instruction_of word)) came.0 came.1)
    q.within.first q.value q.within.leads in
    let executed = code_stays f.value.0 m f.value.1 q.value.1 q.value.0 f.within.first f.within.rest f.within.leads
    f.goes_on in
    let after_it = turned_stays q.value.0 q.value.1 m' turn q.within.rest q.goes_on in
    record {
      fetched = f.value;
      executed = q.value;
      is_fetched = within_more (next_word m) es q.within.first q.within.rest f.value q.within.joined f.within;
      is_executed = q.within;
      by_instruction = executed;
      by_trap = after_it;
      by_step = both_stay (changed_by_code f.value.0) (changed_after q.value.0 q.value.1) m q.value.1 m' executed
          after_it;
    }

pub step_stays : (m m' : Machine) (turn : Turn) (es : List Exchange) → m.stopped ≡ None
    → Leads (step m) es (turn, m') → StepRegisters m es m'
unfolding step
step_stays m m' turn es e h =
    let P : Option LastingStop → Type 0 = λ s. Leads (step_unless s m) es (turn, m') in
    going_stays m m' turn es (subst P e h)

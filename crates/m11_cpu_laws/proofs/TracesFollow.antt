-- The rest of a step after an instruction, depending on how the instruction ended.
use Rattle.std.proofs.Common.{◌≡◌, ℕ, Bool, cond, List, [], ◌∷◌, ◌++◌, Option, None, Result, Ok, Err, refl, sym, subst}
use Rattle.std.specs.Prelude.{⊤}
use Rattle.m11_base.specs.Instructions.{instruction_of}
use Rattle.m11_base.specs.declared.instruction.BareOp.TheVariants.{Halt, Wait, Rti, Bpt, Iot, Reset, Rtt}
use Rattle.m11_base.specs.declared.instruction.Insn.{Insn}
use Rattle.m11_base.specs.declared.instruction.Insn.TheVariants as insn
use Rattle.m11_cpu_machine.specs.Acts.{Act, ◌>>=◌}
use Rattle.m11_cpu_machine.specs.Dialogue.{after, Asked, Asks, Comes, Dialogue, Exchange, Leads, Sends, Sent}
use Rattle.m11_cpu_machine.specs.DoubleOperands.{double}
use Rattle.m11_cpu_machine.specs.Execution.{bare, execute, numbered, on_register, return_from_trap}
use Rattle.m11_cpu_machine.specs.Extended.{extended}
use Rattle.m11_cpu_machine.specs.Jumps.{return_by}
use Rattle.m11_cpu_machine.specs.Addressing.{next_word}
use Rattle.m11_cpu_machine.specs.SingleOperands.{single}
use Rattle.m11_cpu_machine.specs.Steps.{ended, instruction, step, step_unless, turned}
use Rattle.m11_cpu_machine.specs.Traps.{stopped_by, trap}
use Rattle.m11_cpu_machine.specs.declared.abort.Abort.{Abort}
use Rattle.m11_cpu_machine.specs.declared.abort.Abort.TheVariants.{Traps, Stops}
use Rattle.m11_cpu_machine.specs.declared.abort.Vector.TheVariants.{Breakpoint}
use Rattle.m11_cpu_machine.specs.declared.execution.Ending.{Ending}
use Rattle.m11_cpu_machine.specs.declared.execution.Ending.TheVariants as ending
use Rattle.m11_cpu_machine.specs.declared.machine.Machine.{Machine}
use Rattle.m11_cpu_machine.specs.declared.stop.LastingStop.{LastingStop}
use Rattle.m11_cpu_machine.specs.declared.stop.Stop.TheVariants as stop
use Rattle.m11_cpu_machine.specs.declared.stop.Turn.{Turn}
use Rattle.m11_cpu_machine.specs.declared.stop.Turn.TheVariants.{Next, Stopped}
use Rattle.m11_cpu_laws.specs.Tracing.{Follows, FollowsAbort, InstructionAborts, InstructionEnds, IsOver, TrapsIfTraced}
use Rattle.m11_cpu_machine.proofs.Dialogues.{leads_after}
use Rattle.m11_cpu_laws.proofs.Exchanging.{once}
use Rattle.m11_cpu_laws.proofs.Parts.{Always, at_bind, at_comes}

-- ---- the ending of each instruction

abbrev ending_of : Insn → Ending
ending_of (insn.Bare Halt) = ending.Halts
ending_of (insn.Bare Wait) = ending.Waits
ending_of (insn.Bare Rtt) = ending.Untraced
ending_of other = ending.Next

abbrev EndsBy : Ending → Result Ending Abort → Type 0
EndsBy by (Ok came) = came ≡ by
EndsBy by (Err abort) = ⊤

pub whatever : {A : Type 0} (d : Dialogue A) → Always d (λ y. ⊤)
whatever d = record { each = λ es y h. tt }

ends_then : {A : Type 0} (act : Act A) (by : Ending) (m : Machine)
    → Always ((act >>= λ x n. Comes (Ok by, n)) m) (λ y. EndsBy by y.0)
ends_then act by m =
    at_bind act _ m (λ y. ⊤) (λ y. EndsBy by y.0) (whatever (act m)) (λ e n t. tt) (λ x n t. at_comes refl)

execute_ends : (code : Insn) (m : Machine) → Always (execute code m) (λ y. EndsBy (ending_of code) y.0)
unfolding execute bare
execute_ends (insn.Double operation size source destination) m =
    ends_then (double operation size source destination) ending.Next m
execute_ends (insn.Extended operation register source) m = ends_then (extended operation register source) ending.Next m
execute_ends (insn.Register operation register operand) m =
    ends_then (on_register operation register operand) ending.Next m
execute_ends (insn.Sob register words) m = at_comes refl
execute_ends (insn.Single operation size operand) m = ends_then (single operation size operand) ending.Next m
execute_ends (insn.Rts register) m = ends_then (return_by register) ending.Next m
execute_ends (insn.Number operation number) m = ends_then (numbered operation number) ending.Next m
execute_ends (insn.Bare Halt) m = at_comes refl
execute_ends (insn.Bare Wait) m = at_comes refl
execute_ends (insn.Bare Rti) m = ends_then return_from_trap ending.Next m
execute_ends (insn.Bare Rtt) m = ends_then return_from_trap ending.Untraced m
execute_ends (insn.Bare Bpt) m = at_comes tt
execute_ends (insn.Bare Iot) m = at_comes tt
execute_ends (insn.Bare Reset) m = at_comes refl
execute_ends (insn.Condition operation named) m = at_comes refl
execute_ends (insn.Branch operation words) m = at_comes refl
execute_ends (insn.Reserved word) m = at_comes tt

-- ---- the rest of the step

over : (turn : Turn) (m : Machine) (es : List Exchange) (y : Turn × Machine) → Leads (Comes (turn, m)) es y
    → IsOver turn m es y
over turn m es y h = once (λ fs z. IsOver turn m fs z) (turn, m) es y (refl, refl) h

traces : (m : Machine) (es : List Exchange) (y : Turn × Machine) → Leads (ended m) es y → TrapsIfTraced m es y
unfolding ended
traces m es y h = record {
  traced = λ e.
      let P : Bool → Type 0 = λ t. Leads (cond t (trap Breakpoint m) (Comes (Next, m))) es y in subst P e h;
  untraced = λ e.
      let P : Bool → Type 0 = λ t. Leads (cond t (trap Breakpoint m) (Comes (Next, m))) es y in
      over Next m es y (subst P e h);
}

follows : (code : Insn) (m : Machine) (es : List Exchange) (y : Turn × Machine)
    → Leads (turned (Ok (ending_of code)) m) es y → Follows code m es y
unfolding turned
follows (insn.Double operation size source destination) m es y h = traces m es y h
follows (insn.Extended operation register source) m es y h = traces m es y h
follows (insn.Register operation register operand) m es y h = traces m es y h
follows (insn.Sob register words) m es y h = traces m es y h
follows (insn.Single operation size operand) m es y h = traces m es y h
follows (insn.Rts register) m es y h = traces m es y h
follows (insn.Number operation number) m es y h = traces m es y h
follows (insn.Bare Halt) m es y h = over (Stopped stop.Halt) m es y h
follows (insn.Bare Wait) m es y h = over (Stopped stop.Wait) m es y h
follows (insn.Bare Rti) m es y h = traces m es y h
follows (insn.Bare Rtt) m es y h = over Next m es y h
follows (insn.Bare Bpt) m es y h = traces m es y h
follows (insn.Bare Iot) m es y h = traces m es y h
follows (insn.Bare Reset) m es y h = traces m es y h
follows (insn.Condition operation named) m es y h = traces m es y h
follows (insn.Branch operation words) m es y h = traces m es y h
follows (insn.Reserved word) m es y h = traces m es y h

follows_abort : (abort : Abort) (m : Machine) (es : List Exchange) (y : Turn × Machine)
    → Leads (turned (Err abort) m) es y → FollowsAbort abort m es y
unfolding turned
follows_abort (Traps vector) m es y h = h
follows_abort (Stops lasting) m es y h = over (stopped_by lasting m).0 (stopped_by lasting m).1 es y h

-- ---- the rest of a dialogue

pub leads_rest : {A B : Type 0} (d : Dialogue A) (es fs : List Exchange) (x : A) (next : A → Dialogue B) (y : B)
    → Leads d es x → Leads (after d next) (es ++ fs) y → Leads (next x) fs y
unfolding Leads
leads_rest {A = A} (Comes x) [] fs z next y e h =
    let P : A → Type 0 = λ v. Leads (next v) fs y in subst P (sym e) h
leads_rest (Comes x) (e ∷ es) fs z next y h k = absurd h
leads_rest (Asks by) [] fs z next y h k = absurd h
leads_rest (Asks by) (Asked r ∷ es) fs z next y h k = leads_rest (by r) es fs z next y h k
leads_rest (Asks by) (Sent b t ∷ es) fs z next y h k = absurd h
leads_rest (Sends b by) [] fs z next y h k = absurd h
leads_rest (Sends b by) (Asked r ∷ es) fs z next y h k = absurd h
leads_rest (Sends b by) (Sent c t ∷ es) fs z next y h k = leads_rest (by t) es fs z next y h.1 k.1

step_rest : (m left : Machine) (came : Result Ending Abort) (es fs : List Exchange) (y : Turn × Machine)
    → m.stopped ≡ None → Leads (instruction m) es (came, left) → Leads (step m) (es ++ fs) y
    → Leads (turned came left) fs y
unfolding step
step_rest m left came es fs y e h k =
    let P : Option LastingStop → Type 0 = λ s. Leads (step_unless s m) (es ++ fs) y in
    leads_rest (instruction m) es fs (came, left) (λ c. turned c.0 c.1) y h (subst P e k)

instruction_leads : (m n left : Machine) (word : ℕ) (came : Result Ending Abort) (es fs : List Exchange)
    → Leads (next_word m) es (Ok word, n) → Leads (execute (instruction_of word) n) fs (came, left)
    → Leads (instruction m) (es ++ fs) (came, left)
unfolding instruction ◌>>=◌
instruction_leads m n left word came es fs h k =
    leads_after (next_word m) es fs (Ok word, n) _ (came, left) h k

pub instruction_ends : (m : Machine) → m.stopped ≡ None → InstructionEnds m
instruction_ends m e word n left came first second third y fetched executed stepped =
    let code = instruction_of word in
    let by : came ≡ ending_of code = (execute_ends code n).each second (Ok came, left) executed in
    let P : Ending → Type 0 = λ x. Leads (turned (Ok x) left) third y in
    follows code left third y (subst P by (step_rest m left (Ok came) (first ++ second) third y e
    (instruction_leads m n left word (Ok came) first second fetched executed) stepped))

pub instruction_aborts : (m : Machine) → m.stopped ≡ None → InstructionAborts m
instruction_aborts m e abort left first second y aborted stepped =
    follows_abort abort left second y (step_rest m left (Err abort) first second y e aborted stepped)

-- A trap returns to where it came from.
use Rattle.std.proofs.Common.{◌≡◌, ◌≢◌, ℕ, zero, suc, ◌+◌, ◌/◌, ◌%◌, ◌<◌, ◌≤◌, ◌==◌, Bool, true, false, length, Some, None, Result, Ok, Err, refl, sym, ◌∙◌, ap, subst, arith}
use Rattle.m11_base.specs.Operand.{register_number}
use Rattle.m11_base.specs.declared.instruction.BareOp.TheVariants.{Rti, Bpt, Iot}
use Rattle.m11_base.specs.declared.instruction.Insn.{Insn}
use Rattle.m11_base.specs.declared.instruction.Insn.TheVariants as insn
use Rattle.m11_base.specs.declared.instruction.NumberOp.TheVariants.{Emt, Trap}
use Rattle.m11_base.specs.declared.operand.Register.{Register}
use Rattle.m11_base.specs.declared.operand.Register.TheVariants.{Sp, Pc}
use Rattle.m11_cpu_machine.specs.Acts.{◌>>=◌}
use Rattle.m11_cpu_machine.specs.Dialogue.{after, Comes, Dialogue}
use Rattle.m11_cpu_machine.specs.Execution.{bare, execute, numbered, return_from_trap}
use Rattle.m11_cpu_machine.specs.Jumps.{pop, push}
use Rattle.m11_cpu_machine.specs.Machine.{advanced, register_of, with_register}
use Rattle.m11_cpu_machine.specs.Memory.{word_at}
use Rattle.m11_cpu_laws.specs.Returns.{HasRoom, IsAt, IsRunning, IsWordInside, TrapInstructionsReturn, TrapIsOver, TrapReturns, vector_of}
use Rattle.m11_cpu_machine.specs.Status.{bit, psw_of, status_of}
use Rattle.m11_cpu_machine.specs.Steps.{step, turned}
use Rattle.m11_cpu_machine.specs.Traps.{push_state, trap, trap_pushed, vector_address, vectored}
use Rattle.m11_cpu_laws.specs.Writes.{push_address, stack_deepened}
use Rattle.m11_cpu_machine.specs.declared.abort.Abort.{Abort}
use Rattle.m11_cpu_machine.specs.declared.abort.Abort.TheVariants.{Traps}
use Rattle.m11_cpu_machine.specs.declared.abort.Vector.{Vector}
use Rattle.m11_cpu_machine.specs.declared.abort.Vector.TheVariants as vector
use Rattle.m11_cpu_machine.specs.declared.execution.Ending.{Ending}
use Rattle.m11_cpu_machine.specs.declared.machine.Machine.{Machine}
use Rattle.m11_cpu_machine.specs.declared.status.ProcessorStatus.{ProcessorStatus}
use Rattle.m11_cpu_machine.specs.declared.stop.Turn.TheVariants.{Next}
use Rattle.m11_cpu_machine.proofs.AtOnce.{bind_at}
use Rattle.m11_cpu_laws.proofs.StepsInMemory.{pop_inside, push_inside, pushed, step_at, step_by}
use Rattle.m11_cpu_machine.proofs.RegistersPut.{put_same}
use Rattle.m11_cpu_laws.proofs.WordsPut.{length_put, put_length, put_other, word_put, word_put_other}

-- ---- the processor status

bit_small : (b : Bool) → bit b ≤ 1
bit_small true = omega arith
bit_small false = omega arith

bit_read : (n : ℕ) → n < 2 → bit (n == 1) ≡ n
bit_read zero below = refl
bit_read (suc zero) below = refl
bit_read (suc (suc n)) below = absurd (omega arith)

psw_small : (s : ProcessorStatus) → psw_of s < 256
psw_small s =
    let t = bit_small s.trace in
    let n = bit_small s.codes.negative in
    let z = bit_small s.codes.zero in
    let v = bit_small s.codes.overflow in
    let c = bit_small s.codes.carry in
    omega arith

-- only the low byte of a status word counts
low_byte_of_status : (w : ℕ) → psw_of (status_of w) ≡ w % 256
low_byte_of_status w =
    let t = bit_read (w / 16 % 2) (omega arith) in
    let n = bit_read (w / 8 % 2) (omega arith) in
    let z = bit_read (w / 4 % 2) (omega arith) in
    let v = bit_read (w / 2 % 2) (omega arith) in
    let c = bit_read (w % 2) (omega arith) in
    omega arith

-- a status stored as a word, and loaded from it, gives the same word again
status_again : (s : ProcessorStatus) → psw_of (status_of (psw_of s)) ≡ psw_of s
status_again s = let e = low_byte_of_status (psw_of s) in let f = psw_small s in omega (arith, e, f)

untraced_again : (s : ProcessorStatus) → s.trace ≡ false → (status_of (psw_of s)).trace ≡ false
untraced_again s e =
    let n = bit_small s.codes.negative in
    let z = bit_small s.codes.zero in
    let v = bit_small s.codes.overflow in
    let c = bit_small s.codes.carry in
    let t : bit s.trace ≡ 0 = ap bit e in
    let clear : psw_of s / 16 % 2 ≡ 0 = omega arith in
    ap (λ (k : ℕ). k == 1) clear

-- ---- RTI

-- the machine after one step of RTI
record Restored (trapped : Machine) (counter_word status_word : ℕ) : Type 0 where
  returned : Machine
  in_one_step : step trapped ≡ Comes (Next, returned)
  counter : register_of Pc returned ≡ counter_word
  status : returned.status ≡ status_of status_word
  stack : register_of Sp returned ≡ ((register_of Sp trapped + 2) % 0o200000 + 2) % 0o200000

rti_steps : (trapped : Machine) (lower upper counter_word status_word : ℕ) → length trapped.registers ≡ 8
    → trapped.stopped ≡ None → IsAt (insn.Bare Rti) trapped → register_of Sp trapped ≡ lower
    → upper ≡ (lower + 2) % 0o200000 → IsWordInside lower trapped → IsWordInside upper trapped
    → word_at trapped.memory lower ≡ counter_word → word_at trapped.memory upper ≡ status_word
    → (status_of status_word).trace ≡ false → Restored trapped counter_word status_word
unfolding execute bare return_from_trap
rti_steps trapped lower upper counter_word status_word count runs is_at stack_is next_is inside inside' first second
    untraced =
    let apart : register_number Sp ≢ register_number Pc = λ e. omega arith in
    let apart' : register_number Pc ≢ register_number Sp = λ e. omega arith in
    let a = advanced Pc 2 trapped in
    let b = advanced Sp 2 a in
    let word = word_at a.memory (register_of Sp a) in
    let c = with_register Pc word b in
    let d = advanced Sp 2 c in
    let word' = word_at c.memory (register_of Sp c) in
    let returned : Machine = record d { status = status_of word' } in
    let count_a : length a.registers ≡ 8 = put_length Pc _ trapped count in
    let count_b : length b.registers ≡ 8 = put_length Sp _ a count_a in
    let count_c : length c.registers ≡ 8 = put_length Pc word b count_b in
    let stack_a : register_of Sp a ≡ lower = put_other Sp Pc _ trapped apart ∙ stack_is in
    let stack_c : register_of Sp c ≡ upper =
    put_other Sp Pc word b apart ∙ put_same Sp _ a count_a ∙ ap (λ (k : ℕ). (k + 2) % 0o200000) stack_a ∙ sym next_is in
    let P : ℕ → Type 0 = λ k. IsWordInside k trapped in
    let word_is : word ≡ counter_word = ap (λ (k : ℕ). word_at trapped.memory k) stack_a ∙ first in
    let word_is' : word' ≡ status_word = ap (λ (k : ℕ). word_at trapped.memory k) stack_c ∙ second in
    let popped : return_from_trap a ≡ Comes (Ok tt, returned) =
    bind_at pop _ a b word (pop_inside a (subst P (sym stack_a) inside))
    ∙ bind_at pop _ c d word' (pop_inside c (subst P (sym stack_c) inside')) in
    record {
      returned = returned;
      in_one_step = step_by (insn.Bare Rti) trapped returned runs is_at
          (bind_at return_from_trap _ a returned tt popped)
          (ap (λ (k : ℕ). (status_of k).trace) word_is' ∙ untraced);
      counter = put_other Pc Sp _ c apart' ∙ put_same Pc word b count_b ∙ word_is;
      status = ap status_of word_is';
      stack = put_same Sp _ c count_c
          ∙ ap (λ (k : ℕ). (k + 2) % 0o200000) (stack_c ∙ next_is ∙ ap (λ (k : ℕ). (k + 2) % 0o200000) (sym stack_is));
    }

-- ---- a trap

-- the machine after both pushes
abbrev state_pushed : Machine → Machine
state_pushed m = pushed (register_of Pc (pushed (psw_of m.status) m)) (pushed (psw_of m.status) m)

trap_comes : (v : Vector) (m : Machine) → HasRoom m → trap v m ≡ Comes (Next, vectored v (state_pushed m))
unfolding trap push_state
trap_comes v m room =
    let p = pushed (psw_of m.status) m in
    let l = length_put m.memory (push_address m) (psw_of m.status) in
    let fits = room.1.1 in
    let inside : IsWordInside (push_address p) p = (room.1.0, omega (arith, l, fits)) in
    let both : push_state m ≡ Comes (Ok tt, state_pushed m) =
    bind_at (push (psw_of m.status)) _ m p tt (push_inside (psw_of m.status) m room.0)
    ∙ push_inside (register_of Pc p) p inside in
    ap (λ (d : Dialogue (Result (Unit {0}) Abort × Machine)). after d (λ pushed. trap_pushed v pushed.0 pushed.1)) both

-- RTI leaves the machine as it was before the trap
over : (m trapped : Machine) (counter lower upper : ℕ) → register_of Sp m < 0o200000
    → Restored trapped counter (psw_of m.status) → counter ≡ register_of Pc m → register_of Sp trapped ≡ lower
    → upper ≡ (lower + 2) % 0o200000 → upper ≡ (register_of Sp m + 0o177776) % 0o200000
    → TrapIsOver (register_of Pc m) m trapped
over m trapped counter lower upper fits r counter_is stack_is next_is upper_is = record {
  returned = r.returned;
  in_one_step = r.in_one_step;
  counter = r.counter ∙ counter_is;
  status = ap psw_of r.status ∙ status_again m.status;
  stack = let e = r.stack in omega arith;
}

pub trap_back : (v : Vector) (m : Machine) → IsRunning m → HasRoom m → TrapReturns v m
trap_back v m running room =
    let apart : register_number Sp ≢ register_number Pc = λ e. omega arith in
    let apart' : register_number Pc ≢ register_number Sp = λ e. omega arith in
    let s = psw_of m.status in
    let p = pushed s m in
    let counter = register_of Pc p in
    let q = state_pushed m in
    let trapped = vectored v q in
    let upper = push_address m in
    let lower = push_address p in
    let fits = running.words Sp in
    let count_p : length p.registers ≡ 8 = put_length Sp _ m running.registers in
    let count_q : length q.registers ≡ 8 = put_length Sp _ p count_p in
    let stack_p : register_of Sp p ≡ upper = put_same Sp upper m running.registers in
    let stack_t : register_of Sp trapped ≡ lower = put_other Sp Pc _ q apart ∙ put_same Sp lower p count_p in
    let counter_is : counter ≡ register_of Pc m = put_other Pc Sp upper m apart' in
    let next_is : upper ≡ (lower + 2) % 0o200000 = omega (arith, stack_p) in
    let ne : upper ≢ lower = λ e. omega (arith, stack_p) in
    let l = length_put m.memory upper s in
    let l' = length_put p.memory lower counter in
    let i = room.0.1 in
    let j = room.1.1 in
    let after_upper : upper + 1 < length p.memory = omega (arith, l, i) in
    let after_lower : lower + 1 < length p.memory = omega (arith, l, j) in
    let upper_inside : IsWordInside upper trapped = (room.0.0, omega (arith, l', after_upper)) in
    let lower_inside : IsWordInside lower trapped = (room.1.0, omega (arith, l', after_lower)) in
    let first : word_at q.memory lower ≡ counter = word_put p.memory lower counter after_lower in
    let second : word_at q.memory upper ≡ s =
    word_put_other p.memory lower counter upper room.1.0 room.0.0 ne ∙ word_put m.memory upper s i in
    record {
      trapped = trapped;
      traps = trap_comes v m room;
      by_vector = record {
        counter = put_same Pc _ q count_q;
        status = low_byte_of_status (word_at q.memory (vector_address v + 2));
      };
      comes_back = λ is_at. over m trapped counter lower upper fits
          (rti_steps trapped lower upper counter s (put_length Pc _ q count_q) running.not_stopped is_at stack_t next_is
          lower_inside upper_inside first second
          (untraced_again m.status running.not_traced)) counter_is stack_t next_is refl;
    }

-- ---- the instructions that trap

abbrev by_vector : Machine → Vector → Dialogue (Result Ending Abort × Machine)
by_vector n v = Comes (Err (Traps v), n)

trapping : (code : Insn) (v : Vector) (n : Machine) → vector_of code ≡ Some v → execute code n ≡ by_vector n v
unfolding execute bare numbered ◌>>=◌
trapping (insn.Bare Bpt) v n e = let f : vector.Breakpoint ≡ v = cc in ap (by_vector n) f
trapping (insn.Bare Iot) v n e = let f : vector.InputOutput ≡ v = cc in ap (by_vector n) f
trapping (insn.Number Emt number) v n e = let f : vector.Emulator ≡ v = cc in ap (by_vector n) f
trapping (insn.Number Trap number) v n e = let f : vector.Trap ≡ v = cc in ap (by_vector n) f
trapping (insn.Reserved word) v n e = let f : vector.Reserved ≡ v = cc in ap (by_vector n) f
trapping other v n e = absurd (cc)

words_stay : (register : Register) (m : Machine) → IsRunning m → register_of register (advanced Pc 2 m) < 0o200000
words_stay Pc m running = let e = put_same Pc ((register_of Pc m + 2) % 0o200000) m running.registers in omega
    (arith, e)
words_stay register m running =
    let e = put_other register Pc ((register_of Pc m + 2) % 0o200000) m (λ e. omega arith) in
    let f = running.words register in
    omega (arith, e, f)

goes_on : (m : Machine) → IsRunning m → IsRunning (advanced Pc 2 m)
goes_on m running = record {
  not_stopped = running.not_stopped;
  not_traced = running.not_traced;
  registers = put_length Pc _ m running.registers;
  words = λ register. words_stay register m running;
}

abbrev below : ℕ → ℕ
below address = (address + 0o177776) % 0o200000

has_room_still : (m : Machine) → IsRunning m → HasRoom m → HasRoom (advanced Pc 2 m)
has_room_still m running room =
    let n = advanced Pc 2 m in
    let P : ℕ → Type 0 = λ a. IsWordInside a m in
    let one : push_address n ≡ push_address m = ap below (put_other Sp Pc _ m (λ e. omega arith)) in
    let two : push_address (stack_deepened n) ≡ push_address (stack_deepened m) =
    ap below (put_same Sp (push_address n) n (put_length Pc _ m running.registers) ∙ one
    ∙ sym (put_same Sp (push_address m) m running.registers)) in
    (subst P (sym one) room.0, subst P (sym two) room.1)

pub trap_instructions_back : (code : Insn) (v : Vector) (m : Machine) → TrapInstructionsReturn code v m
unfolding turned
trap_instructions_back code v m running is_at e room =
    let n = advanced Pc 2 m in
    let b = trap_back v n (goes_on m running) (has_room_still m running room) in
    record {
      trapped = b.trapped;
      in_one_step = step_at code m running.not_stopped is_at
          ∙ ap (λ (d : Dialogue (Result Ending Abort × Machine)). after d (λ came. turned came.0 came.1))
          (trapping code v n e)
          ∙ b.traps;
      by_vector = b.by_vector;
      comes_back = λ i.
          let o = b.comes_back i in
          record {
            returned = o.returned;
            in_one_step = o.in_one_step;
            counter = o.counter ∙ put_same Pc _ m running.registers;
            status = o.status;
            stack = o.stack ∙ put_other Sp Pc _ m (λ e. omega arith);
          };
    }

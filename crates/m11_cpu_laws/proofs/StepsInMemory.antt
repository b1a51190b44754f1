-- Acts and steps without exchanges: they read and write only memory.
use Rattle.std.proofs.Common.{◌≡◌, ℕ, ◌%◌, ◌<◌, ◌==◌, Bool, true, false, cond, List, [], length, Option, None, Result, Ok, refl, sym, ◌∙◌, ap, subst, append-nil, arith, lt-ltb}
use Rattle.m11_base.specs.Instructions.{instruction_of}
use Rattle.m11_base.specs.declared.instruction.Insn.{Insn}
use Rattle.m11_base.specs.declared.operand.Register.TheVariants.{Sp, Pc}
use Rattle.m11_cpu_machine.specs.Access.{is_inside, is_odd, load_word, store_word}
use Rattle.m11_cpu_machine.specs.Acts.{Act, unless_aborted, ◌>>=◌}
use Rattle.m11_cpu_machine.specs.Dialogue.{after, Comes, Dialogue, Exchange, Leads}
use Rattle.m11_cpu_machine.specs.Execution.{execute}
use Rattle.m11_cpu_machine.specs.Jumps.{pop, push}
use Rattle.m11_cpu_machine.specs.Machine.{advanced, register_of}
use Rattle.m11_cpu_machine.specs.Memory.{with_word, word_at}
use Rattle.m11_cpu_machine.specs.Addressing.{next_word}
use Rattle.m11_cpu_machine.specs.Steps.{instruction, step, step_unless, turned}
use Rattle.m11_cpu_machine.specs.declared.abort.Abort.{Abort}
use Rattle.m11_cpu_machine.specs.declared.execution.Ending.{Ending}
use Rattle.m11_cpu_machine.specs.declared.execution.Ending.TheVariants as ending
use Rattle.m11_cpu_machine.specs.declared.machine.Machine.{Machine}
use Rattle.m11_cpu_machine.specs.declared.stop.LastingStop.{LastingStop}
use Rattle.m11_cpu_machine.specs.declared.stop.Turn.TheVariants.{Next}
use Rattle.m11_cpu_machine.proofs.AtOnce.{bind_at, cond_not, turned_next}
use Rattle.m11_cpu_machine.proofs.Dialogues.{leads_after}
use Rattle.m11_cpu_laws.specs.Returns.{IsAt, IsWordInside}
use Rattle.m11_cpu_laws.specs.Writes.{push_address, stack_deepened}

cond_so : {A : Type 0} (test : Bool) (a b : A) → test ≡ true → cond test a b ≡ a
cond_so {A = A} test a b e = ap (λ (t : Bool). cond t a b) e

-- if a dialogue yields x, and the next one for x yields y at once, the two in sequence yield y after the same exchanges
pub leads_then : {A B : Type 0} (d : Dialogue A) (next : A → Dialogue B) (es : List Exchange) (x : A) (y : B)
    → Leads d es x → next x ≡ Comes y → Leads (after d next) es y
unfolding Leads
leads_then {B = B} d next es x y h e =
    let P : Dialogue B → Type 0 = λ k. Leads k [] y in
    let Q : List Exchange → Type 0 = λ fs. Leads (after d next) fs y in
    subst Q (append-nil es) (leads_after d es [] x next y h (subst P (sym e) refl))

pub bind_leads : {A B : Type 0} (act : Act A) (next : A → Act B) (m n : Machine) (es : List Exchange) (x : A)
    (y : Result B Abort × Machine) → Leads (act m) es (Ok x, n) → next x n ≡ Comes y → Leads ((act >>= next) m) es y
unfolding ◌>>=◌
bind_leads act next m n es x y h e = leads_then (act m) (λ came. unless_aborted next came.0 came.1) es (Ok x, n) y h e

-- ---- words in memory

even_is_not_odd : (address : ℕ) → address % 2 ≡ 0 → is_odd address ≡ false
even_is_not_odd address e = ap (λ (k : ℕ). k == 1) e

pub load_inside : (address : ℕ) (m : Machine) → IsWordInside address m
    → load_word address m ≡ Comes (Ok (word_at m.memory address), m)
unfolding load_word
load_inside address m i =
    let below : address < length m.memory = omega (arith, i.1) in
    cond_not (is_odd address) _ _ (even_is_not_odd address i.0) ∙ cond_so (is_inside address m) _ _ (lt-ltb _ _ below)

pub store_inside : (address v : ℕ) (m : Machine) → IsWordInside address m
    → store_word address v m ≡ Comes (Ok tt, record m { memory = with_word address v m.memory })
unfolding store_word
store_inside address v m i =
    let below : address < length m.memory = omega (arith, i.1) in
    cond_not (is_odd address) _ _ (even_is_not_odd address i.0) ∙ cond_so (is_inside address m) _ _ (lt-ltb _ _ below)

abbrev pub pushed : ℕ → Machine → Machine
pushed v m = record (stack_deepened m) { memory = with_word (push_address m) v m.memory }

pub push_inside : (v : ℕ) (m : Machine) → IsWordInside (push_address m) m → push v m ≡ Comes (Ok tt, pushed v m)
unfolding push
push_inside v m i = store_inside (push_address m) v (stack_deepened m) i

pub pop_inside : (m : Machine) → IsWordInside (register_of Sp m) m
    → pop m ≡ Comes (Ok (word_at m.memory (register_of Sp m)), advanced Sp 2 m)
unfolding pop
pop_inside m i = load_inside (register_of Sp m) (advanced Sp 2 m) i

pub next_inside : (m : Machine) → IsWordInside (register_of Pc m) m
    → next_word m ≡ Comes (Ok (word_at m.memory (register_of Pc m)), advanced Pc 2 m)
unfolding next_word
next_inside m i = bind_at (load_word (register_of Pc m)) _ m m _ (load_inside (register_of Pc m) m i)

-- ---- steps

pub instruction_at : (code : Insn) (m : Machine) → IsAt code m → instruction m ≡ execute code (advanced Pc 2 m)
unfolding instruction
instruction_at code m i =
    bind_at next_word (λ word. execute (instruction_of word)) m (advanced Pc 2 m) _ (next_inside m i.0)
    ∙ ap (λ (c : Insn). execute c (advanced Pc 2 m)) i.1

pub step_at : (code : Insn) (m : Machine) → m.stopped ≡ None → IsAt code m
    → step m ≡ after (execute code (advanced Pc 2 m)) (λ came. turned came.0 came.1)
unfolding step
step_at code m e i =
    ap (λ (s : Option LastingStop). step_unless s m) e
    ∙ ap (λ (d : Dialogue (Result Ending Abort × Machine)). after d (λ came. turned came.0 came.1))
    (instruction_at code m i)

pub step_by : (code : Insn) (m n : Machine) → m.stopped ≡ None → IsAt code m
    → execute code (advanced Pc 2 m) ≡ Comes (Ok ending.Next, n) → n.status.trace ≡ false → step m ≡ Comes (Next, n)
step_by code m n e i f t =
    step_at code m e i
    ∙ ap (λ (d : Dialogue (Result Ending Abort × Machine)). after d (λ came. turned came.0 came.1)) f
    ∙ turned_next n t

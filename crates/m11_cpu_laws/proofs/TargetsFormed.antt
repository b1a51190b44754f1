-- The machine after a target is formed, and its program counter.
use Rattle.std.proofs.Common.{◌≡◌, ◌≢◌, ℕ, ◌+◌, ◌%◌, ◌<◌, ◌==◌, Bool, true, false, ◌&&◌, length, None, Result, Ok, Err, refl, sym, ◌∙◌, arith, eq-eqb, true≢false}
use Rattle.std.specs.Prelude.{⊤}
use Rattle.m11_base.specs.Operand.{register_number}
use Rattle.m11_base.specs.declared.operand.Mode.{Mode}
use Rattle.m11_base.specs.declared.operand.Mode.TheVariants as mode
use Rattle.m11_base.specs.declared.operand.Operand.{Operand}
use Rattle.m11_base.specs.declared.operand.Register.{Register}
use Rattle.m11_base.specs.declared.operand.Register.TheVariants.{Sp, Pc}
use Rattle.m11_base.specs.declared.operand.Size.TheVariants.{Word}
use Rattle.m11_cpu_machine.specs.Access.{load_word}
use Rattle.m11_cpu_machine.specs.Jumps.{address_of, target}
use Rattle.m11_cpu_machine.specs.Machine.{advanced, register_of, with_register}
use Rattle.m11_cpu_machine.specs.Addressing.{deferred, indexed, location_by, location_of, next_word}
use Rattle.m11_cpu_laws.specs.Returns.{call_length, IsRunning, length_by, over_back, over_forward, steps}
use Rattle.m11_cpu_machine.specs.declared.abort.Abort.{Abort}
use Rattle.m11_cpu_machine.specs.declared.console.Receiver.{Receiver}
use Rattle.m11_cpu_machine.specs.declared.machine.Machine.{Machine}
use Rattle.m11_cpu_machine.specs.declared.addressing.OperandLocation.{OperandLocation}
use Rattle.m11_cpu_machine.specs.declared.addressing.OperandLocation.TheVariants.{InRegister, InMemory}
use Rattle.m11_cpu_laws.proofs.AddressesLeave.{deferred_keeps, location_keeps, target_keeps, word_keeps}
use Rattle.m11_cpu_laws.proofs.Parts.{Always, at_bind, at_comes, at_map, Keeps}
use Rattle.m11_cpu_machine.proofs.RegistersPut.{put_same}
use Rattle.m11_cpu_laws.proofs.WordsPut.{put_length, put_other}

-- after a target is formed, there are eight registers, this register, the stack pointer and memory are unchanged, T is clear, and there is
-- no lasting stop
pub record Formed (register : Register) (m n : Machine) : Type 0 where
  pub count : length n.registers ≡ 8
  pub link : register_of register n ≡ register_of register m
  pub stack : register_of Sp n ≡ register_of Sp m
  pub memory : n.memory ≡ m.memory
  pub untraced : n.status.trace ≡ false
  pub runs : n.stopped ≡ None

formed_receives : (register : Register) (m n : Machine) (r : Receiver) → Formed register m n
    → Formed register m (record n { receiver = r })
formed_receives register m n r f = record {
  count = f.count;
  link = f.link;
  stack = f.stack;
  memory = f.memory;
  untraced = f.untraced;
  runs = f.runs;
}

formed_puts : (register other : Register) (m n : Machine) (v : ℕ) → register_number register ≢ register_number other
    → register_number Sp ≢ register_number other → Formed register m n → Formed register m (with_register other v n)
formed_puts register other m n v ne ne' f = record {
  count = put_length other v n f.count;
  link = put_other register other v n ne ∙ f.link;
  stack = put_other Sp other v n ne' ∙ f.stack;
  memory = f.memory;
  untraced = f.untraced;
  runs = f.runs;
}

-- an operand that steps its register, but not this one, has another register
unstepped : (stepping : Bool) (a b : ℕ) → (stepping && (a == b)) ≡ false → stepping ≡ true → b ≢ a
unstepped true a b e f g = true≢false (sym (eq-eqb _ _ (sym g)) ∙ e)
unstepped false a b e f g = true≢false (sym f)

pub call_forms : (register : Register) (operand : Operand) (m : Machine) → IsRunning m
    → register_number register ≢ register_number Pc → steps operand register ≡ false → steps operand Sp ≡ false
    → Keeps (Formed register m) (target operand (advanced Pc 2 m))
unfolding target
call_forms register operand m running not_counter link_not_stepped stack_not_stepped =
    let apart : register_number Sp ≢ register_number Pc = λ e. omega arith in
    let begun : Formed register m m = record {
      count = running.registers;
      link = refl;
      stack = refl;
      memory = refl;
      untraced = running.not_traced;
      runs = running.not_stopped;
    } in
    target_keeps (Formed register m) operand Word (advanced Pc 2 m)
    (location_keeps (Formed register m) (formed_receives register m)
    (λ n v f. formed_puts register Pc m n v not_counter apart f) operand Word (advanced Pc 2 m)
    (λ s n v f. formed_puts register operand.register m n v (unstepped _ _ _ link_not_stepped s)
    (unstepped _ _ _ stack_not_stepped s) f)
    (formed_puts register Pc m m _ not_counter apart begun))

-- the program counter has this value, and there are eight registers
pub record CounterAt (v : ℕ) (n : Machine) : Type 0 where
  pub counter : register_of Pc n ≡ v
  pub count : length n.registers ≡ 8

counter_receives : (v : ℕ) (n : Machine) (r : Receiver) → CounterAt v n → CounterAt v (record n { receiver = r })
counter_receives v n r c = record { counter = c.counter; count = c.count }

abbrev pub Counted : {A : Type 0} → ℕ → Result A Abort → Machine → Type 0
Counted v (Ok x) n = CounterAt v n
Counted v (Err e) n = ⊤

abbrev pub Counts : {A : Type 0} → ℕ → Result A Abort × Machine → Type 0
Counts v y = Counted v y.0 y.1

counted : {A : Type 0} (v : ℕ) (r : Result A Abort) (n : Machine) → CounterAt v n → Counted v r n
counted v (Ok x) n c = c
counted v (Err e) n c = tt

-- the address 2 bytes after this one, modulo octal 200000
abbrev pub following : ℕ → ℕ
following p = (p + 2) % 0o200000

stepped_on : (register : Register) (p : ℕ) (n : Machine) → CounterAt (following p) n
    → CounterAt ((p + over_forward register) % 0o200000) (advanced register 2 n)
stepped_on Pc p n c = record {
  counter = let e = put_same Pc ((register_of Pc n + 2) % 0o200000) n c.count in let f = c.counter in omega
      (arith, e, f);
  count = put_length Pc _ n c.count;
}
stepped_on register p n c = record {
  counter = put_other Pc register _ n (λ e. omega arith) ∙ c.counter;
  count = put_length register _ n c.count;
}

stepped_off : (register : Register) (p : ℕ) (n : Machine) → p < 0o200000 → CounterAt (following p) n
    → CounterAt ((p + over_back register) % 0o200000)
    (with_register register ((register_of register n + 0o177776) % 0o200000) n)
stepped_off Pc p n fits c = record {
  counter = let e = put_same Pc ((register_of Pc n + 0o177776) % 0o200000) n c.count in let f = c.counter in omega
      (arith, e, f);
  count = put_length Pc _ n c.count;
}
stepped_off register p n fits c = record {
  counter = put_other Pc register _ n (λ e. omega arith) ∙ c.counter;
  count = put_length register _ n c.count;
}

next_counts : (p : ℕ) (m : Machine) → CounterAt (following p) m
    → Always (next_word m) (λ y. Counts ((p + 4) % 0o200000) y)
unfolding next_word
next_counts p m c =
    at_bind (load_word (register_of Pc m)) _ m (λ y. CounterAt (following p) y.1) (λ y. Counts ((p + 4) % 0o200000) y)
    (word_keeps (CounterAt (following p)) (counter_receives (following p)) (register_of Pc m) m c)
    (λ e n d. tt) (λ word n d. at_comes (stepped_on Pc p n d))

indexed_counts : (register : Register) (p : ℕ) (m : Machine) → CounterAt (following p) m
    → Always (indexed register m) (λ y. Counts ((p + 4) % 0o200000) y)
unfolding indexed
indexed_counts register p m c =
    at_bind next_word _ m (λ y. Counts ((p + 4) % 0o200000) y) (λ y. Counts ((p + 4) % 0o200000) y)
    (next_counts p m c) (λ e n d. tt) (λ word n d. at_comes d)

deferred_counts : (address v : ℕ) (m : Machine) → CounterAt v m → Always (deferred address m) (λ y. Counts v y)
deferred_counts address v m c =
    at_map (deferred_keeps (CounterAt v) (counter_receives v) address m c) (λ y d. counted v y.0 y.1 d)

location_counts : (by : Mode) (register : Register) (p : ℕ) (m : Machine) → p < 0o200000 → CounterAt (following p) m
    → Always (location_by by register Word m) (λ y. Counts ((p + length_by by register) % 0o200000) y)
location_counts mode.Register register p m fits c = at_comes c
location_counts mode.RegisterDeferred register p m fits c = at_comes c
location_counts mode.Autoincrement register p m fits c = at_comes (stepped_on register p m c)
location_counts mode.AutoincrementDeferred register p m fits c = deferred_counts _ _ _ (stepped_on register p m c)
location_counts mode.Autodecrement register p m fits c = at_comes (stepped_off register p m fits c)
location_counts mode.AutodecrementDeferred register p m fits c = deferred_counts _ _ _ (stepped_off register p m fits c)
location_counts mode.Index register p m fits c =
    at_bind (indexed register) _ m (λ y. Counts ((p + 4) % 0o200000) y) (λ y. Counts ((p + 4) % 0o200000) y)
    (indexed_counts register p m c) (λ e n d. tt) (λ address n d. at_comes d)
location_counts mode.IndexDeferred register p m fits c =
    at_bind (indexed register) deferred m (λ y. Counts ((p + 4) % 0o200000) y) (λ y. Counts ((p + 4) % 0o200000) y)
    (indexed_counts register p m c) (λ e n d. tt) (λ address n d. deferred_counts address _ n d)

address_counts : (v : ℕ) (location : OperandLocation) (n : Machine) → CounterAt v n → Always (address_of location n) (λ y. Counts v y)
address_counts v (InRegister register) n c = at_comes tt
address_counts v (InMemory address) n c = at_comes c

pub call_counts : (operand : Operand) (m : Machine) → IsRunning m
    → Always (target operand (advanced Pc 2 m)) (λ y. Counts ((register_of Pc m + call_length operand) % 0o200000) y)
unfolding target location_of
call_counts operand m running =
    let v = (register_of Pc m + call_length operand) % 0o200000 in
    let begun : CounterAt (following (register_of Pc m)) (advanced Pc 2 m) = record {
      counter = put_same Pc _ m running.registers;
      count = put_length Pc _ m running.registers;
    } in
    at_bind (location_of operand Word) address_of (advanced Pc 2 m) (λ y. Counts v y) (λ y. Counts v y)
    (location_counts operand.mode operand.register (register_of Pc m) (advanced Pc 2 m) (running.words Pc) begun)
    (λ e n d. tt) (λ location n d. address_counts v location n d)

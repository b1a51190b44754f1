-- Steps that are made at once, part by part.
use Rattle.std.proofs.Common.{◌≡◌, ℕ, ◌+◌, ◌%◌, ◌<◌, Bool, true, false, not, ◌&&◌, cond, Option, Some, zero, suc, refl, sym, ◌∙◌, ap, subst, length, arith}
use Rattle.std.proofs.lemmas.Bool.{false≢true}
use Rattle.std.specs.Prelude.{nat_lt, Result, Ok}
use Rattle.m11_base.proofs.Words.{tables_meaning}
use Rattle.m11_base.specs.OperationTables.{operation_by_tables}
use Rattle.m11_base.specs.Instructions.{instruction_of, meaning}
use Rattle.m11_base.specs.declared.instruction.DoubleOp.{DoubleOp}
use Rattle.m11_base.specs.declared.instruction.Insn.{Insn}
use Rattle.m11_base.specs.declared.instruction.SingleOp.{SingleOp}
use Rattle.m11_base.specs.declared.operand.Mode.{Mode}
use Rattle.m11_base.specs.declared.operand.Mode.TheVariants as mode
use Rattle.m11_base.specs.declared.operand.Operand.{Operand}
use Rattle.m11_base.specs.declared.operand.Register.{Register}
use Rattle.m11_base.specs.declared.operand.Register.TheVariants.{Pc}
use Rattle.m11_base.specs.declared.operand.Size.{Size}
use Rattle.m11_base.specs.declared.operand.Size.TheVariants.{Word, Byte}
use Rattle.m11_cpu_machine.specs.Access.{is_inside, is_odd, load_byte, load_device, load_word, receiver_status, store_word, store_byte}
use Rattle.m11_cpu_machine.specs.Console.{is_waiting, receiver_bits, transmitter_bits}
use Rattle.m11_cpu_machine.specs.Acts.{Act, ◌>>=◌}
use Rattle.m11_cpu_machine.specs.DestinationUse.{use_by_double, use_by_single}
use Rattle.m11_cpu_machine.specs.Dialogue.{after, Comes, Dialogue}
use Rattle.m11_cpu_machine.specs.DoubleOperands.{change_double, compare, double_at, double_by, move_to}
use Rattle.m11_cpu_machine.specs.Execution.{execute}
use Rattle.m11_cpu_machine.specs.Machine.{advanced, register_of, with_register}
use Rattle.m11_cpu_machine.specs.Memory.{byte_at, with_byte, with_word, word_at}
use Rattle.m11_cpu_quick.specs.Near.{SameStopAndTrace, is_plain, plain_at}
use Rattle.m11_cpu_machine.specs.Addressing.{deferred, fetch, fetch_operand, indexed, next_word, location_by, location_of, stepped_back, step_of, store}
use Rattle.m11_cpu_quick.specs.Quick.{QuickRuns, StepsAtOnce}
use Rattle.m11_cpu_machine.specs.SingleOperands.{change_single, single, single_by, test_operand, write}
use Rattle.m11_cpu_machine.specs.Steps.{instruction, step, step_unless, turned}
use Rattle.m11_cpu_machine.specs.declared.abort.Abort.{Abort}
use Rattle.m11_cpu_machine.specs.declared.destination_use.DestinationUse.{DestinationUse}
use Rattle.m11_cpu_machine.specs.declared.destination_use.DestinationUse.TheVariants.{Writes, Reads, Changes}
use Rattle.m11_cpu_machine.specs.declared.execution.Ending.{Ending}
use Rattle.m11_cpu_machine.specs.declared.execution.Ending.TheVariants as ending
use Rattle.m11_cpu_machine.specs.declared.machine.Machine.{Machine}
use Rattle.m11_cpu_machine.specs.declared.addressing.OperandLocation.{OperandLocation}
use Rattle.m11_cpu_machine.specs.declared.addressing.OperandLocation.TheVariants.{InRegister, InMemory}
use Rattle.m11_cpu_machine.specs.declared.stop.LastingStop.{LastingStop}
use Rattle.m11_cpu_machine.specs.declared.stop.Turn.TheVariants.{Next}
use Rattle.m11_cpu_machine.proofs.AtOnce.{bind_at, cond_not, turned_next}

chosen : {A : Type 0} (odd inside : Bool) (a b c : A) → (not odd && inside) ≡ true → cond odd a (cond inside b c) ≡ b
chosen false true a b c e = refl
chosen false false a b c e = absurd (false≢true e)
chosen true inside a b c e = absurd (false≢true e)

first : {A : Type 0} (inside : Bool) (b c : A) → inside ≡ true → cond inside b c ≡ b
first {A = A} inside b c e = ap (λ (t : Bool). cond t b c) e

pub word_loads : (address : ℕ) (m : Machine) → is_plain Word address m.memory ≡ true
    → load_word address m ≡ Comes (Ok (word_at m.memory address), m)
unfolding load_word
word_loads address m e = chosen (is_odd address) (nat_lt address (length m.memory)) _ _ _ e

byte_loads : (address : ℕ) (m : Machine) → is_plain Byte address m.memory ≡ true
    → load_byte address m ≡ Comes (Ok (byte_at m.memory address), m)
unfolding load_byte
byte_loads address m e = first (nat_lt address (length m.memory)) _ _ e

pub word_stores : (address v : ℕ) (m : Machine) → is_plain Word address m.memory ≡ true
    → store_word address v m ≡ Comes (Ok tt, record m { memory = with_word address v m.memory })
unfolding store_word
word_stores address v m e = chosen (is_odd address) (nat_lt address (length m.memory)) _ _ _ e

byte_stores : (address v : ℕ) (m : Machine) → is_plain Byte address m.memory ≡ true
    → store_byte address v m ≡ Comes (Ok tt, record m { memory = with_byte address v m.memory })
unfolding store_byte
byte_stores address v m e = first (nat_lt address (length m.memory)) _ _ e

abbrev came : {A : Type 0} → A → Machine → Dialogue (Result A Abort × Machine)
came x n = Comes (Ok x, n)

-- ---- words and bytes in memory

pub plain_fetched : (size : Size) (address v : ℕ) (m : Machine) → is_plain size address m.memory ≡ true
    → v ≡ plain_at size address m.memory → fetch (InMemory address) size m ≡ Comes (Ok v, m)
unfolding fetch
plain_fetched Word address v m p f =
    let to : ℕ → Dialogue (Result ℕ Abort × Machine) = λ x. Comes (Ok x, m) in
    word_loads address m p ∙ ap to (sym f)
plain_fetched Byte address v m p f =
    let to : ℕ → Dialogue (Result ℕ Abort × Machine) = λ x. Comes (Ok x, m) in
    byte_loads address m p ∙ ap to (sym f)

-- at an even address past the end of memory, a word or a byte is fetched from the device register there
device_fetched : (address v : ℕ) (m : Machine) (size : Size) → is_odd address ≡ false → is_inside address m ≡ false
    → load_device address m ≡ Comes (Ok v, m) → fetch (InMemory address) size m ≡ Comes (Ok v, m)
unfolding fetch load_word load_byte
device_fetched address v m Word o i d =
    cond_not (is_odd address) _ _ o ∙ cond_not (is_inside address m) _ _ i ∙ d
device_fetched address v m Byte o i d =
    cond_not (is_inside address m) _ _ i ∙ cond_not (is_odd address) _ _ o ∙ d

pub transmitter_fetched : (address v : ℕ) (m : Machine) (size : Size) → address ≡ 0o177564 → is_inside address m ≡ false
    → v ≡ transmitter_bits m.transmitter → fetch (InMemory address) size m ≡ Comes (Ok v, m)
unfolding load_device
transmitter_fetched address v m size a i b =
    let P : ℕ → Type 0 = λ x. is_inside x m ≡ false → fetch (InMemory x) size m ≡ Comes (Ok v, m) in
    let to : ℕ → Dialogue (Result ℕ Abort × Machine) = λ x. Comes (Ok x, m) in
    subst P (sym a) (λ j. device_fetched 0o177564 v m size refl j (ap to (sym b))) i

pub receiver_fetched : (address v : ℕ) (m : Machine) (size : Size) → address ≡ 0o177560 → is_inside address m ≡ false
    → is_waiting m.receiver ≡ false → v ≡ receiver_bits m.receiver → fetch (InMemory address) size m ≡ Comes (Ok v, m)
unfolding load_device receiver_status
receiver_fetched address v m size a i w b =
    let P : ℕ → Type 0 = λ x. is_inside x m ≡ false → fetch (InMemory x) size m ≡ Comes (Ok v, m) in
    let to : ℕ → Dialogue (Result ℕ Abort × Machine) = λ x. Comes (Ok x, m) in
    subst P (sym a)
    (λ j. device_fetched 0o177560 v m size refl j (cond_not (is_waiting m.receiver) _ _ w ∙ ap to (sym b))) i

pub word_stored : (size : Size) (address v : ℕ) (m n : Machine) → size ≡ Word
    → is_plain size address m.memory ≡ true
    → n ≡ record m { memory = with_word address v m.memory } → store (InMemory address) size v m ≡ Comes (Ok tt, n)
unfolding store
word_stored size address v m n e p f =
    let P : Size → Type 0 = λ s. is_plain s address m.memory ≡ true in
    let to : Machine → Dialogue (Result (Unit {0}) Abort × Machine) = λ x. Comes (Ok tt, x) in
    ap (λ (s : Size). store (InMemory address) s v m) e ∙ word_stores address v m (subst P e p) ∙ ap to (sym f)

pub byte_stored : (size : Size) (address v : ℕ) (m n : Machine) → size ≡ Byte
    → is_plain size address m.memory ≡ true
    → n ≡ record m { memory = with_byte address (v % 256) m.memory }
    → store (InMemory address) size v m ≡ Comes (Ok tt, n)
unfolding store
byte_stored size address v m n e p f =
    let P : Size → Type 0 = λ s. is_plain s address m.memory ≡ true in
    let to : Machine → Dialogue (Result (Unit {0}) Abort × Machine) = λ x. Comes (Ok tt, x) in
    ap (λ (s : Size). store (InMemory address) s v m) e ∙ byte_stores address (v % 256) m (subst P e p) ∙ ap to (sym f)

pub comes_at : {A : Type 0} (x x' : A) (n n' : Machine) → x' ≡ x → n' ≡ n → came x n ≡ came x' n'
comes_at {A = A} x x' n n' e f = ap (λ (v : A). came v n) (sym e) ∙ ap (λ (k : Machine). came x' k) (sym f)

-- ---- locations in memory, by the operand's mode

placed : (operand : Operand) (size : Size) (m : Machine) (mode : Mode) → operand.mode ≡ mode
    → location_of operand size m ≡ location_by mode operand.register size m
unfolding location_of
placed operand size m mode e = ap (λ (x : Mode). location_by x operand.register size m) e

comes_location : (a a' : ℕ) (n n' : Machine) → a' ≡ a → n' ≡ n → came (InMemory a) n ≡ came (InMemory a') n'
comes_location a a' n n' e f = comes_at (InMemory a) (InMemory a') n n' (ap InMemory e) f

pub by_register : (operand : Operand) (size : Size) (a : ℕ) (m : Machine) → operand.mode ≡ mode.RegisterDeferred
    → a ≡ register_of operand.register m → location_of operand size m ≡ Comes (Ok (InMemory a), m)
by_register operand size a m e f =
    placed operand size m mode.RegisterDeferred e ∙ comes_location _ a m m f refl

pub by_increment : (operand : Operand) (size : Size) (a : ℕ) (m n : Machine) → operand.mode ≡ mode.Autoincrement
    → a ≡ register_of operand.register m → n ≡ advanced operand.register (step_of size operand.register) m
    → location_of operand size m ≡ Comes (Ok (InMemory a), n)
by_increment operand size a m n e f k =
    placed operand size m mode.Autoincrement e ∙ comes_location _ a _ n f k

pub by_decrement : (operand : Operand) (size : Size) (a : ℕ) (m n : Machine) → operand.mode ≡ mode.Autodecrement
    → a ≡ stepped_back operand.register (step_of size operand.register) m → n ≡ with_register operand.register a m
    → location_of operand size m ≡ Comes (Ok (InMemory a), n)
by_decrement operand size a m n e f k =
    let to : ℕ → Machine = λ x. with_register operand.register x m in
    placed operand size m mode.Autodecrement e ∙ comes_location _ a _ n f (k ∙ ap to f)

pub by_pointer : (operand : Operand) (size : Size) (a : ℕ) (m n : Machine)
    → operand.mode ≡ mode.AutoincrementDeferred → is_plain Word (register_of operand.register m) m.memory ≡ true
    → a ≡ plain_at Word (register_of operand.register m) m.memory → n ≡ advanced operand.register 2 m
    → location_of operand size m ≡ Comes (Ok (InMemory a), n)
unfolding deferred
by_pointer operand size a m n e p f k =
    placed operand size m mode.AutoincrementDeferred e
    ∙ bind_at (load_word (register_of operand.register m)) _ (advanced operand.register 2 m)
    (advanced operand.register 2 m) _ (word_loads (register_of operand.register m) (advanced operand.register 2 m) p)
    ∙ comes_location _ a _ n f k

pub next_at : (m : Machine) → is_plain Word (register_of Pc m) m.memory ≡ true
    → next_word m ≡ Comes (Ok (word_at m.memory (register_of Pc m)), advanced Pc 2 m)
unfolding next_word
next_at m p = bind_at (load_word (register_of Pc m)) _ m m _ (word_loads (register_of Pc m) m p)

indexed_at : (register : Register) (m : Machine) → is_plain Word (register_of Pc m) m.memory ≡ true
    → indexed register m
    ≡ Comes (
      Ok ((word_at m.memory (register_of Pc m) + register_of register (advanced Pc 2 m)) % 0o200000),
      advanced Pc 2 m,
    )
unfolding indexed
indexed_at register m p = bind_at next_word _ m (advanced Pc 2 m) _ (next_at m p)

pub index_at : (register : Register) (a index : ℕ) (m n : Machine) → is_plain Word (register_of Pc m) m.memory ≡ true
    → index ≡ plain_at Word (register_of Pc m) m.memory → n ≡ advanced Pc 2 m
    → a ≡ (index + register_of register n) % 0o200000 → indexed register m ≡ Comes (Ok a, n)
index_at register a index m n p i k f =
    let N = advanced Pc 2 m in
    let one = ap (λ (x : Machine). (index + register_of register x) % 0o200000) k in
    let two = ap (λ (x : ℕ). (x + register_of register N) % 0o200000) i in
    indexed_at register m p ∙ comes_at _ a _ n (f ∙ one ∙ two) k

pub by_index : (operand : Operand) (size : Size) (a : ℕ) (m n : Machine) → operand.mode ≡ mode.Index
    → indexed operand.register m ≡ Comes (Ok a, n) → location_of operand size m ≡ Comes (Ok (InMemory a), n)
by_index operand size a m n e f =
    placed operand size m mode.Index e ∙ bind_at (indexed operand.register) _ m n a f

pub by_index_pointer : (operand : Operand) (size : Size) (pointer a : ℕ) (m n : Machine) → operand.mode ≡ mode.IndexDeferred
    → indexed operand.register m ≡ Comes (Ok pointer, n) → is_plain Word pointer n.memory ≡ true
    → a ≡ plain_at Word pointer n.memory → location_of operand size m ≡ Comes (Ok (InMemory a), n)
unfolding deferred
by_index_pointer operand size pointer a m n e i p f =
    placed operand size m mode.IndexDeferred e ∙ bind_at (indexed operand.register) deferred m n pointer i
    ∙ bind_at (load_word pointer) _ n n _ (word_loads pointer n p) ∙ comes_location _ a _ n f refl

pub by_pointer_before : (operand : Operand) (size : Size) (pointer a : ℕ) (m n : Machine)
    → operand.mode ≡ mode.AutodecrementDeferred → pointer ≡ stepped_back operand.register 2 m
    → is_plain Word pointer m.memory ≡ true → a ≡ plain_at Word pointer m.memory
    → n ≡ with_register operand.register pointer m → location_of operand size m ≡ Comes (Ok (InMemory a), n)
unfolding deferred
by_pointer_before operand size pointer a m n e b p f k =
    let stepped = with_register operand.register pointer m in
    placed operand size m mode.AutodecrementDeferred e
    ∙ ap (λ (x : ℕ). deferred x (with_register operand.register x m)) (sym b)
    ∙ bind_at (load_word pointer) _ stepped stepped _ (word_loads pointer stepped p) ∙ comes_location _ a _ n f k

-- ---- operands

pub location_fetched : (operand : Operand) (size : Size) (location : OperandLocation) (v : ℕ) (m n : Machine)
    → location_of operand size m ≡ Comes (Ok location, n) → fetch location size n ≡ Comes (Ok v, n)
    → fetch_operand operand size m ≡ Comes (Ok v, n)
unfolding fetch_operand
location_fetched operand size location v m n e f = bind_at (location_of operand size) _ m n location e ∙ f

pub in_register : (operand : Operand) (size : Size) (m : Machine) → operand.mode ≡ mode.Register
    → location_of operand size m ≡ Comes (Ok (InRegister operand.register), m)
in_register operand size m e = placed operand size m mode.Register e

pub bind_comes : {A B : Type 0} (act : Act A) (next : A → Act B) (m n k : Machine) (x : A) (y : B)
    → act m ≡ Comes (Ok x, n) → next x n ≡ Comes (Ok y, k) → (act >>= next) m ≡ Comes (Ok y, k)
bind_comes act next m n k x y e f = bind_at act next m n x e ∙ f

-- ---- operations, by what they do with their destination

pub double_writes : (operation : DoubleOp) (size : Size) (source : ℕ) (location : OperandLocation) (m n : Machine)
    → use_by_double operation ≡ Writes → move_to location size source m ≡ Comes (Ok tt, n)
    → double_at operation size source location m ≡ Comes (Ok tt, n)
unfolding double_at
double_writes operation size source location m n e f =
    ap (λ (u : DestinationUse). double_by u operation size source location m) e ∙ f

pub double_reads : (operation : DoubleOp) (size : Size) (source : ℕ) (location : OperandLocation) (m n : Machine)
    → use_by_double operation ≡ Reads → compare operation location size source m ≡ Comes (Ok tt, n)
    → double_at operation size source location m ≡ Comes (Ok tt, n)
unfolding double_at
double_reads operation size source location m n e f =
    ap (λ (u : DestinationUse). double_by u operation size source location m) e ∙ f

pub double_changes : (operation : DoubleOp) (size : Size) (source : ℕ) (location : OperandLocation) (m n : Machine)
    → use_by_double operation ≡ Changes → change_double operation location size source m ≡ Comes (Ok tt, n)
    → double_at operation size source location m ≡ Comes (Ok tt, n)
unfolding double_at
double_changes operation size source location m n e f =
    ap (λ (u : DestinationUse). double_by u operation size source location m) e ∙ f

pub single_writes : (operation : SingleOp) (size : Size) (operand : Operand) (m n : Machine)
    → use_by_single operation ≡ Some Writes → write operation size operand m ≡ Comes (Ok tt, n)
    → single operation size operand m ≡ Comes (Ok tt, n)
unfolding single
single_writes operation size operand m n e f =
    ap (λ (u : Option DestinationUse). single_by u operation size operand m) e ∙ f

pub single_reads : (operation : SingleOp) (size : Size) (operand : Operand) (m n : Machine)
    → use_by_single operation ≡ Some Reads → test_operand operation size operand m ≡ Comes (Ok tt, n)
    → single operation size operand m ≡ Comes (Ok tt, n)
unfolding single
single_reads operation size operand m n e f =
    ap (λ (u : Option DestinationUse). single_by u operation size operand m) e ∙ f

pub single_changes : (operation : SingleOp) (size : Size) (operand : Operand) (m n : Machine)
    → use_by_single operation ≡ Some Changes → change_single operation size operand m ≡ Comes (Ok tt, n)
    → single operation size operand m ≡ Comes (Ok tt, n)
unfolding single
single_changes operation size operand m n e f =
    ap (λ (u : Option DestinationUse). single_by u operation size operand m) e ∙ f

-- ---- steps

pub step_made : (m k n : Machine) (counter word : ℕ) → word < 65536 → QuickRuns m → counter ≡ register_of Pc m
    → is_plain Word counter m.memory ≡ true → word ≡ plain_at Word counter m.memory
    → k ≡ with_register Pc ((counter + 2) % 0o200000) m
    → execute (meaning (operation_by_tables word) word) k ≡ Comes (Ok ending.Next, n) → SameStopAndTrace k n
    → step m ≡ Comes (Next, n)
unfolding step instruction
step_made m k n counter word h r e p w f x t =
    let P : ℕ → Type 0 = λ a. is_plain Word a m.memory ≡ true in
    let at = bind_at next_word (λ v. execute (instruction_of v)) m (advanced Pc 2 m) _ (next_at m (subst P e p)) in
    let read = w ∙ ap (λ (a : ℕ). word_at m.memory a) e in
    let stepped = f ∙ ap (λ (a : ℕ). with_register Pc ((a + 2) % 0o200000) m) e in
    let same = ap (λ (v : ℕ). execute (instruction_of v) (advanced Pc 2 m)) (sym read)
    ∙ ap (λ (i : Insn). execute i (advanced Pc 2 m)) (sym (tables_meaning word h))
    ∙ ap (λ (l : Machine). execute (meaning (operation_by_tables word) word) l) (sym stepped) ∙ x in
    let untraced = t.1 ∙ ap (λ (l : Machine). l.status.trace) f ∙ r.1 in
    ap (λ (s : Option LastingStop). step_unless s m) r.0
    ∙ ap (λ (d : Dialogue (Result Ending Abort × Machine)). after d (λ came. turned came.0 came.1)) (at ∙ same)
    ∙ turned_next n untraced

-- ---- steps one after the other

pub no_steps : (m : Machine) → StepsAtOnce 0 m m
unfolding StepsAtOnce
no_steps m = refl

pub one_more_step : (steps : ℕ) (m n k : Machine) → StepsAtOnce steps m n → step n ≡ Comes (Next, k)
    → StepsAtOnce (steps + 1) m k
unfolding StepsAtOnce
one_more_step steps m n k s e =
    let P : ℕ → Type 0 = λ c. StepsAtOnce c m k in
    let f : suc steps ≡ steps + 1 = omega arith in
    subst P f (n, s, e)

pub steps_joined : (before steps : ℕ) (m n k : Machine) → StepsAtOnce before m n → StepsAtOnce steps n k
    → StepsAtOnce (before + steps) m k
unfolding StepsAtOnce
steps_joined before zero m n k s t =
    let P : Machine → Type 0 = λ x. StepsAtOnce before m x in
    let Q : ℕ → Type 0 = λ c. StepsAtOnce c m k in
    let same : before ≡ before + zero = omega arith in
    subst Q same (subst P (sym t) s)
steps_joined before (suc steps) m n k s t =
    let Q : ℕ → Type 0 = λ c. StepsAtOnce c m k in
    let next : (before + steps) + 1 ≡ before + suc steps = omega arith in
    subst Q next (one_more_step (before + steps) m t.0 k (steps_joined before steps m n t.0 s t.1) t.2)

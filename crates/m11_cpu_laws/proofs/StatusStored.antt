-- The processor status word after instructions that store to it.
use Rattle.std.proofs.Common.{◌≡◌, ℕ, ◌/◌, ◌%◌, ◌≤◌, true, false, List, ◌++◌, length, Result, Ok, refl, sym, ◌∙◌, ap, subst, arith, true≢false, Bool}
use Rattle.std.proofs.lemmas.Bool.{le-ltb}
use Rattle.m11_base.specs.declared.instruction.BareOp.{BareOp}
use Rattle.m11_base.specs.declared.instruction.BareOp.TheVariants.{Halt, Wait, Rti, Bpt, Iot, Reset, Rtt}
use Rattle.m11_base.specs.declared.instruction.DoubleOp.{DoubleOp}
use Rattle.m11_base.specs.declared.instruction.DoubleOp.TheVariants.{Mov, Cmp, Bit, Bic, Bis, Add, Sub}
use Rattle.m11_base.specs.declared.instruction.Insn.TheVariants as insn
use Rattle.m11_base.specs.declared.instruction.RegisterOp.TheVariants.{Xor}
use Rattle.m11_base.specs.declared.instruction.SingleOp.{SingleOp}
use Rattle.m11_base.specs.declared.instruction.SingleOp.TheVariants.{Jmp, Swab, Clr, Com, Inc, Dec, Neg, Adc, Sbc, Tst, Ror, Rol, Asr, Asl, Sxt}
use Rattle.m11_base.specs.declared.operand.Operand.{Operand}
use Rattle.m11_base.specs.declared.operand.Register.{Register}
use Rattle.m11_base.specs.declared.operand.Register.TheVariants.{Pc}
use Rattle.m11_base.specs.declared.operand.Size.{Size}
use Rattle.m11_base.specs.declared.operand.Size.TheVariants.{Word, Byte}
use Rattle.m11_cpu_arithmetic.specs.Doubles.{double_result, exclusive_or_result}
use Rattle.m11_cpu_arithmetic.specs.Singles.{single_result}
use Rattle.m11_cpu_arithmetic.specs.declared.results.Computed.{Computed}
use Rattle.m11_cpu_machine.specs.Access.{is_inside, load_byte, load_device, load_word, store_byte, store_device, store_word}
use Rattle.m11_cpu_machine.specs.Acts.{Act, unless_aborted, ◌>>=◌}
use Rattle.m11_cpu_machine.specs.Addressing.{fetch, fetch_operand, location_of, store_result, store}
use Rattle.m11_cpu_machine.specs.Dialogue.{Comes, Dialogue, Exchange, Leads}
use Rattle.m11_cpu_machine.specs.DoubleOperands.{change_double, change_exclusive, double, double_at, exclusive_or, move_to, store_moved}
use Rattle.m11_cpu_machine.specs.Execution.{bare, execute, on_register, return_from_trap}
use Rattle.m11_cpu_machine.specs.Jumps.{call, enter, pop, push, target}
use Rattle.m11_cpu_machine.specs.Machine.{psw_in, register_of, with_condition_codes, with_register}
use Rattle.m11_cpu_machine.specs.SingleOperands.{change_at, change_single, single, write}
use Rattle.m11_cpu_machine.specs.Status.{status_of}
use Rattle.m11_cpu_machine.specs.declared.abort.Abort.{Abort}
use Rattle.m11_cpu_machine.specs.declared.addressing.OperandLocation.{OperandLocation}
use Rattle.m11_cpu_machine.specs.declared.addressing.OperandLocation.TheVariants.{InMemory}
use Rattle.m11_cpu_machine.specs.declared.execution.Ending.TheVariants as ending
use Rattle.m11_cpu_machine.specs.declared.machine.Machine.{Machine}
use Rattle.m11_cpu_machine.specs.declared.status.ProcessorStatus.{ProcessorStatus}
use Rattle.m11_cpu_machine.proofs.AtOnce.{bind_at, cond_not}
use Rattle.m11_cpu_machine.proofs.Dialogues.{leads_after}
use Rattle.m11_cpu_laws.specs.StatusWord.{CallsAtStatus, DoublesAtStatus, EndsAs, EndsBeforeDevices, ExclusivesAtStatus, ReturnsLoad, SinglesAtStatus, with_status_word}
use Rattle.m11_cpu_laws.specs.Writes.{push_address, stack_deepened, stores_double, stores_single}
use Rattle.m11_cpu_laws.proofs.StepsInMemory.{bind_leads}

-- ---- one act after another

pub bind_then : {A B : Type 0} (act : Act A) (next : A → Act B) (m n : Machine) (es fs : List Exchange) (x : A)
    (y : Result B Abort × Machine) → Leads (act m) es (Ok x, n) → Leads (next x n) fs y
    → Leads ((act >>= next) m) (es ++ fs) y
unfolding ◌>>=◌
bind_then act next m n es fs x y h k =
    leads_after (act m) es fs (Ok x, n) (λ came. unless_aborted next came.0 came.1) y h k

-- ---- the address of the status

outside : (address : ℕ) (m : Machine) → EndsBeforeDevices m → 0o160000 ≤ address → is_inside address m ≡ false
outside address m h past = le-ltb address (length m.memory) (omega (arith, h, past))

-- only the low byte of a status counts
low_status : (word : ℕ) → status_of (word % 256) ≡ status_of word
low_status word =
    let p : word % 256 / 32 % 8 ≡ word / 32 % 8 = omega arith in
    let t : word % 256 / 16 % 2 ≡ word / 16 % 2 = omega arith in
    let n : word % 256 / 8 % 2 ≡ word / 8 % 2 = omega arith in
    let z : word % 256 / 4 % 2 ≡ word / 4 % 2 = omega arith in
    let v : word % 256 / 2 % 2 ≡ word / 2 % 2 = omega arith in
    let c : word % 256 % 2 ≡ word % 2 = omega arith in
    cc

low_written : (word : ℕ) (m : Machine) → with_status_word (word % 256) m ≡ with_status_word word m
low_written word m =
    ap (λ (s : ProcessorStatus). record m { status = record s { trace = m.status.trace } }) (low_status word)

status_fetched : (size : Size) (m : Machine) → EndsBeforeDevices m
    → fetch (InMemory 0o177776) size m ≡ Comes (Ok (psw_in m), m)
unfolding fetch load_word load_byte load_device
status_fetched Word m h = cond_not (is_inside 0o177776 m) _ _ (outside 0o177776 m h (omega arith))
status_fetched Byte m h = cond_not (is_inside 0o177776 m) _ _ (outside 0o177776 m h (omega arith))

odd_fetched : (m : Machine) → EndsBeforeDevices m → fetch (InMemory 0o177777) Byte m ≡ Comes (Ok 0, m)
unfolding fetch load_byte
odd_fetched m h = cond_not (is_inside 0o177777 m) _ _ (outside 0o177777 m h (omega arith))

word_stored : (v : ℕ) (m : Machine) → EndsBeforeDevices m
    → store_word 0o177776 v m ≡ Comes (Ok tt, with_status_word v m)
unfolding store_word store_device
word_stored v m h = cond_not (is_inside 0o177776 m) _ _ (outside 0o177776 m h (omega arith))

abbrev stored_in : Machine → Dialogue (Result (Unit {0}) Abort × Machine)
stored_in m = Comes (Ok tt, m)

status_stored : (size : Size) (v : ℕ) (m : Machine) → EndsBeforeDevices m
    → store (InMemory 0o177776) size v m ≡ Comes (Ok tt, with_status_word v m)
unfolding store store_byte store_device
status_stored Word v m h = word_stored v m h
status_stored Byte v m h =
    cond_not (is_inside 0o177776 m) _ _ (outside 0o177776 m h (omega arith))
    ∙ ap stored_in (low_written v m)

odd_stored : (v : ℕ) (m : Machine) → EndsBeforeDevices m
    → store (InMemory 0o177777) Byte v m ≡ Comes (Ok tt, m)
unfolding store store_byte
odd_stored v m h = cond_not (is_inside 0o177777 m) _ _ (outside 0o177777 m h (omega arith))

-- ---- results stored there

result_stored : (size : Size) (computed : Computed) (m : Machine) → EndsBeforeDevices m
    → store_result (InMemory 0o177776) size computed m ≡ Comes (Ok tt, with_status_word computed.value m)
unfolding store_result
result_stored size computed m h =
    bind_at (store (InMemory 0o177776) size computed.value) _ m _ tt (status_stored size computed.value m h)

result_ignored : (computed : Computed) (m : Machine) → EndsBeforeDevices m
    → store_result (InMemory 0o177777) Byte computed m ≡ Comes (Ok tt, with_condition_codes computed.codes m)
unfolding store_result
result_ignored computed m h =
    bind_at (store (InMemory 0o177777) Byte computed.value) _ m m tt (odd_stored computed.value m h)

changed_double : (operation : DoubleOp) (size : Size) (value : ℕ) (m : Machine) → EndsBeforeDevices m
    → change_double operation (InMemory 0o177776) size value m
    ≡ Comes (Ok tt, with_status_word (double_result operation size value (psw_in m) m.status.codes).value m)
unfolding change_double
changed_double operation size value m h =
    bind_at (fetch (InMemory 0o177776) size) _ m m (psw_in m) (status_fetched size m h) ∙ result_stored size _ m h

ignored_double : (operation : DoubleOp) (value : ℕ) (m : Machine) → EndsBeforeDevices m
    → change_double operation (InMemory 0o177777) Byte value m
    ≡ Comes (Ok tt, with_condition_codes (double_result operation Byte value 0 m.status.codes).codes m)
unfolding change_double
ignored_double operation value m h =
    bind_at (fetch (InMemory 0o177777) Byte) _ m m 0 (odd_fetched m h) ∙ result_ignored _ m h

moved : (size : Size) (value : ℕ) (m : Machine) → EndsBeforeDevices m
    → move_to (InMemory 0o177776) size value m ≡ Comes (Ok tt, with_status_word value m)
unfolding move_to store_moved
moved size value m h = bind_at (store (InMemory 0o177776) size value) _ m _ tt (status_stored size value m h)

move_ignored : (value : ℕ) (m : Machine) → EndsBeforeDevices m
    → move_to (InMemory 0o177777) Byte value m
    ≡ Comes (Ok tt, with_condition_codes (double_result Mov Byte value 0 m.status.codes).codes m)
unfolding move_to store_moved
move_ignored value m h = bind_at (store (InMemory 0o177777) Byte value) _ m m tt (odd_stored value m h)

double_stored : (operation : DoubleOp) (size : Size) (value : ℕ) (m : Machine) → stores_double operation ≡ true
    → EndsBeforeDevices m
    → double_at operation size value (InMemory 0o177776) m
    ≡ Comes (Ok tt, with_status_word (double_result operation size value (psw_in m) m.status.codes).value m)
unfolding double_at double_result
double_stored Mov size value m e h = moved size value m h
double_stored Cmp size value m e h = absurd (cc)
double_stored Bit size value m e h = absurd (cc)
double_stored Bic size value m e h = changed_double Bic size value m h
double_stored Bis size value m e h = changed_double Bis size value m h
double_stored Add size value m e h = changed_double Add size value m h
double_stored Sub size value m e h = changed_double Sub size value m h

double_ignored : (operation : DoubleOp) (value : ℕ) (m : Machine) → stores_double operation ≡ true
    → EndsBeforeDevices m
    → double_at operation Byte value (InMemory 0o177777) m
    ≡ Comes (Ok tt, with_condition_codes (double_result operation Byte value 0 m.status.codes).codes m)
unfolding double_at
double_ignored Mov value m e h = move_ignored value m h
double_ignored Cmp value m e h = absurd (cc)
double_ignored Bit value m e h = absurd (cc)
double_ignored Bic value m e h = ignored_double Bic value m h
double_ignored Bis value m e h = ignored_double Bis value m h
double_ignored Add value m e h = ignored_double Add value m h
double_ignored Sub value m e h = ignored_double Sub value m h

-- ---- instructions of two operands

double_leads : (operation : DoubleOp) (size : Size) (source destination : Operand) (m n formed left : Machine)
    (first second : List Exchange) (value : ℕ) (location : OperandLocation)
    → Leads (fetch_operand source size m) first (Ok value, n)
    → Leads (location_of destination size n) second (Ok location, formed)
    → double_at operation size value location formed ≡ Comes (Ok tt, left)
    → Leads (execute (insn.Double operation size source destination) m) (first ++ second) (Ok ending.Next, left)
unfolding execute double
double_leads operation size source destination m n formed left first second value location h k e =
    bind_leads (double operation size source destination) _ m left (first ++ second) tt (Ok ending.Next, left)
    (bind_then (fetch_operand source size) _ m n first second value (Ok tt, left) h
    (bind_leads (location_of destination size) (double_at operation size value) n formed second location (Ok tt, left) k e))
    refl

pub doubles_at_status : (operation : DoubleOp) (size : Size) (source destination : Operand) (m : Machine)
    → DoublesAtStatus operation size source destination m
doubles_at_status operation size source destination m first second value address n formed e h k i =
    let P : ℕ → Type 0 = λ a. Leads (location_of destination size n) second (Ok (InMemory a), formed) in
    let Q : Size → Type 0 = λ s. double_at operation s value (InMemory 0o177777) formed
    ≡ Comes (Ok tt, with_condition_codes (double_result operation s value 0 formed.status.codes).codes formed) in
    record {
      stored = λ at. double_leads operation size source destination m n formed _ first second value (InMemory 0o177776) h
          (subst P at k) (double_stored operation size value formed e i);
      ignored = λ at byte.
          double_leads operation size source destination m n formed _ first second value (InMemory 0o177777) h
          (subst P at k) (subst Q (sym byte) (double_ignored operation value formed e i));
    }

-- ---- instructions of one operand

single_leads : (operation : SingleOp) (size : Size) (operand : Operand) (m formed left : Machine)
    (es : List Exchange) (next : OperandLocation → Act (Unit {0})) (location : OperandLocation)
    → single operation size operand ≡ (location_of operand size >>= next)
    → Leads (location_of operand size m) es (Ok location, formed) → next location formed ≡ Comes (Ok tt, left)
    → Leads (execute (insn.Single operation size operand) m) es (Ok ending.Next, left)
unfolding execute
single_leads operation size operand m formed left es next location same k e =
    let P : Act (Unit {0}) → Type 0 = λ act. Leads (act m) es (Ok tt, left) in
    bind_leads (single operation size operand) _ m left es tt (Ok ending.Next, left)
    (subst P (sym same) (bind_leads (location_of operand size) next m formed es location (Ok tt, left) k e)) refl

abbrev written : SingleOp → Size → OperandLocation → Act (Unit {0})
written operation size location m = store_result location size (single_result operation size 0 m.status.codes) m

changed_single : (operation : SingleOp) (size : Size) (m : Machine) → EndsBeforeDevices m
    → change_at operation size (InMemory 0o177776) m
    ≡ Comes (Ok tt, with_status_word (single_result operation size (psw_in m) m.status.codes).value m)
unfolding change_at
changed_single operation size m h =
    bind_at (fetch (InMemory 0o177776) size) _ m m (psw_in m) (status_fetched size m h) ∙ result_stored size _ m h

ignored_single : (operation : SingleOp) (m : Machine) → EndsBeforeDevices m
    → change_at operation Byte (InMemory 0o177777) m
    ≡ Comes (Ok tt, with_condition_codes (single_result operation Byte 0 m.status.codes).codes m)
unfolding change_at
ignored_single operation m h =
    bind_at (fetch (InMemory 0o177777) Byte) _ m m 0 (odd_fetched m h) ∙ result_ignored _ m h

-- the act of a single operation after its location is formed
record Finishes (operation : SingleOp) (size : Size) (operand : Operand) (formed : Machine) : Type 0 where
  next : OperandLocation → Act (Unit {0})
  same : single operation size operand ≡ (location_of operand size >>= next)
  stored : next (InMemory 0o177776) formed
      ≡ Comes (Ok tt, with_status_word (single_result operation size (psw_in formed) formed.status.codes).value formed)
  ignored : size ≡ Byte → next (InMemory 0o177777) formed
      ≡ Comes (Ok tt, with_condition_codes (single_result operation size 0 formed.status.codes).codes formed)

changing : (operation : SingleOp) (size : Size) (operand : Operand) (formed : Machine) → EndsBeforeDevices formed
    → single operation size operand ≡ change_single operation size operand → Finishes operation size operand formed
unfolding change_single
changing operation size operand formed h e = record {
  next = change_at operation size;
  same = e;
  stored = changed_single operation size formed h;
  ignored = λ byte.
      let P : Size → Type 0 = λ s. change_at operation s (InMemory 0o177777) formed
      ≡ Comes (Ok tt, with_condition_codes (single_result operation s 0 formed.status.codes).codes formed) in
      subst P (sym byte) (ignored_single operation formed h);
}

-- `Finishes` holds for CLR and SXT, whose result doesn't depend on the value found
writing : (operation : SingleOp) (size : Size) (operand : Operand) (formed : Machine) → EndsBeforeDevices formed
    → single operation size operand ≡ write operation size operand
    → single_result operation size 0 formed.status.codes
    ≡ single_result operation size (psw_in formed) formed.status.codes
    → Finishes operation size operand formed
unfolding write
writing operation size operand formed h e same = record {
  next = written operation size;
  same = e;
  stored = result_stored size _ formed h
      ∙ ap (λ (c : Computed). stored_in (with_status_word c.value formed)) same;
  ignored = λ byte.
      let P : Size → Type 0 = λ s. written operation s (InMemory 0o177777) formed
      ≡ Comes (Ok tt, with_condition_codes (single_result operation s 0 formed.status.codes).codes formed) in
      subst P (sym byte) (result_ignored _ formed h);
}

finishing : (operation : SingleOp) (size : Size) (operand : Operand) (formed : Machine)
    → stores_single operation ≡ true → EndsBeforeDevices formed → Finishes operation size operand formed
unfolding single single_result
finishing Jmp size operand formed e h = absurd (cc)
finishing Swab size operand formed e h = changing Swab size operand formed h refl
finishing Clr size operand formed e h = writing Clr size operand formed h refl refl
finishing Com size operand formed e h = changing Com size operand formed h refl
finishing Inc size operand formed e h = changing Inc size operand formed h refl
finishing Dec size operand formed e h = changing Dec size operand formed h refl
finishing Neg size operand formed e h = changing Neg size operand formed h refl
finishing Adc size operand formed e h = changing Adc size operand formed h refl
finishing Sbc size operand formed e h = changing Sbc size operand formed h refl
finishing Tst size operand formed e h = absurd (cc)
finishing Ror size operand formed e h = changing Ror size operand formed h refl
finishing Rol size operand formed e h = changing Rol size operand formed h refl
finishing Asr size operand formed e h = changing Asr size operand formed h refl
finishing Asl size operand formed e h = changing Asl size operand formed h refl
finishing Sxt size operand formed e h = writing Sxt size operand formed h refl refl

pub singles_at_status : (operation : SingleOp) (size : Size) (operand : Operand) (m : Machine)
    → SinglesAtStatus operation size operand m
singles_at_status operation size operand m es address formed e k h =
    let f = finishing operation size operand formed e h in
    let P : ℕ → Type 0 = λ a. Leads (location_of operand size m) es (Ok (InMemory a), formed) in
    record {
      stored = λ at.
          single_leads operation size operand m formed _ es f.next (InMemory 0o177776) f.same (subst P at k) f.stored;
      ignored = λ at byte.
          single_leads operation size operand m formed _ es f.next (InMemory 0o177777) f.same (subst P at k)
          (f.ignored byte);
    }

-- ---- XOR, JSR, RTI and RTT

exclusive_leads : (register : Register) (operand : Operand) (m formed : Machine) (es : List Exchange)
    → Leads (location_of operand Word m) es (Ok (InMemory 0o177776), formed) → EndsBeforeDevices formed
    → EndsAs (insn.Register Xor register operand) m es
    (with_status_word (exclusive_or_result (register_of register m) (psw_in formed) formed.status.codes).value formed)
unfolding execute on_register exclusive_or change_exclusive
exclusive_leads register operand m formed es k h =
    let v = register_of register m in
    let n = with_status_word (exclusive_or_result v (psw_in formed) formed.status.codes).value formed in
    bind_leads (exclusive_or register operand) _ m n es tt (Ok ending.Next, n)
    (bind_leads (location_of operand Word) (change_exclusive v) m formed es (InMemory 0o177776) (Ok tt, n) k
    (bind_at (fetch (InMemory 0o177776) Word) _ formed formed (psw_in formed) (status_fetched Word formed h)
    ∙ result_stored Word _ formed h)) refl

abbrev is_byte : Size → Bool
is_byte Word = false
is_byte Byte = true

pub exclusives_at_status : (register : Register) (operand : Operand) (m : Machine)
    → ExclusivesAtStatus register operand m
exclusives_at_status register operand m es address formed k h =
    let P : ℕ → Type 0 = λ a. Leads (location_of operand Word m) es (Ok (InMemory a), formed) in
    record {
      stored = λ at. exclusive_leads register operand m formed es (subst P at k) h;
      ignored = λ at byte. absurd (true≢false (sym (ap is_byte byte)));
    }

status_pushed : (v : ℕ) (m : Machine) → push_address m ≡ 0o177776 → EndsBeforeDevices m
    → push v m ≡ Comes (Ok tt, with_status_word v (stack_deepened m))
unfolding push
status_pushed v m e h =
    ap (λ (a : ℕ). store_word a v (stack_deepened m)) e ∙ word_stored v (stack_deepened m) h

pub calls_at_status : (register : Register) (operand : Operand) (m : Machine) → CallsAtStatus register operand m
unfolding execute on_register call enter
calls_at_status register operand m es address formed k e h =
    let n = with_status_word (register_of register formed) (stack_deepened formed) in
    let left = with_register Pc address (with_register register (register_of Pc n) n) in
    bind_leads (call register operand) _ m left es tt (Ok ending.Next, left)
    (bind_leads (target operand) (enter register) m formed es address (Ok tt, left) k
    (bind_at (push (register_of register formed)) _ formed n tt
    (status_pushed (register_of register formed) formed e h))) refl

restored : (m n o : Machine) (first second : List Exchange) (address word : ℕ)
    → Leads (pop m) first (Ok address, n) → Leads (pop (with_register Pc address n)) second (Ok word, o)
    → Leads (return_from_trap m) (first ++ second) (Ok tt, record o { status = status_of word })
unfolding return_from_trap
restored m n o first second address word h k =
    bind_then pop _ m n first second address _ h
    (bind_leads pop _ (with_register Pc address n) o second word _ k refl)

pub returns_load : (operation : BareOp) (m : Machine) → ReturnsLoad operation m
unfolding execute bare
returns_load Halt m first second address word n o e h k = absurd (cc)
returns_load Wait m first second address word n o e h k = absurd (cc)
returns_load Rti m first second address word n o e h k =
    bind_leads return_from_trap _ m _ (first ++ second) tt _ (restored m n o first second address word h k) refl
returns_load Bpt m first second address word n o e h k = absurd (cc)
returns_load Iot m first second address word n o e h k = absurd (cc)
returns_load Reset m first second address word n o e h k = absurd (cc)
returns_load Rtt m first second address word n o e h k =
    bind_leads return_from_trap _ m _ (first ++ second) tt _ (restored m n o first second address word h k) refl

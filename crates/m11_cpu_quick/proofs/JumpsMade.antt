-- Branches and jumps, with the program counter passed separately from the registers.
use Rattle.std.proofs.Common.{◌≡◌, ℕ, ◌+◌, ◌-◌, ◌*◌, ◌%◌, ◌<◌, ◌==◌, Bool, true, false, cond, refl, sym, ◌∙◌, ap, subst, List, length, arith, ℤ}
use Rattle.std.proofs.lemmas.List.{get_or-set_same, set-set}
use Rattle.std.specs.Prelude.{slice_set, Result, Ok}
use Rattle.m11_cpu_arithmetic.specs.Branches.{is_taken}
use Rattle.m11_base.specs.Operand.{register_number}
use Rattle.m11_base.specs.declared.instruction.BranchOp.{BranchOp}
use Rattle.m11_base.specs.declared.operand.Operand.{Operand}
use Rattle.m11_base.specs.declared.operand.Register.{Register}
use Rattle.m11_base.specs.declared.operand.Register.TheVariants.{Sp, Pc}
use Rattle.m11_base.specs.declared.operand.Size.TheVariants.{Word}
use Rattle.m11_cpu_machine.specs.Access.{load_word, store_word}
use Rattle.m11_cpu_machine.specs.Execution.{return_from_trap}
use Rattle.m11_cpu_machine.specs.Status.{status_of}
use Rattle.m11_cpu_machine.specs.Addressing.{location_of, stepped_back}
use Rattle.m11_cpu_machine.specs.Dialogue.{Comes, Dialogue}
use Rattle.m11_cpu_machine.specs.Acts.{Act, ◌>>=◌}
use Rattle.m11_cpu_machine.specs.Jumps.{branched, call, counted_down, enter, jump, pop, push, return_by, target, words_on}
use Rattle.m11_cpu_machine.specs.Memory.{word_at}
use Rattle.m11_cpu_machine.specs.Machine.{advanced, register_of, with_register}
use Rattle.m11_cpu_quick.specs.Near.{is_plain, plain_at}
use Rattle.m11_cpu_quick.specs.Beside.{shown, stored}
use Rattle.m11_cpu_machine.specs.declared.abort.Abort.{Abort}
use Rattle.m11_cpu_machine.specs.declared.addressing.OperandLocation.TheVariants.{InMemory}
use Rattle.m11_cpu_machine.specs.declared.machine.Machine.{Machine}
use Rattle.m11_cpu_machine.specs.declared.status.ProcessorStatus.{ProcessorStatus}
use Rattle.m11_cpu_machine.proofs.AtOnce.{bind_at}
use Rattle.m11_cpu_quick.proofs.QuickDone.{word_loads, word_stores}
use Rattle.m11_cpu_quick.proofs.OperandsFound.{counter_put, counter_read, held, other_put, other_register, with_held}

goes_to : (next next' v : ℕ) (rs : List ℕ) (m : Machine) → next' ≡ v
    → with_register Pc v (shown next rs m) ≡ shown next' rs m
goes_to next next' v rs m e =
    counter_put next v rs m ∙ ap (λ (x : ℕ). record m { registers = slice_set rs 7 x }) (sym e)

pub branch_taken : (operation : BranchOp) (words : ℤ) (next next' : ℕ) (rs : List ℕ) (m : Machine) → length rs ≡ 8
    → is_taken operation m.status.codes ≡ true → next' ≡ words_on (next) words
    → branched operation words (shown next rs m) ≡ shown next' rs m
branch_taken operation words next next' rs m l t e =
    ap (λ (b : Bool). cond b (with_register Pc (words_on (register_of Pc (shown next rs m)) words) (shown next rs m))
    (shown next rs m)) t
    ∙ ap (λ (x : ℕ). with_register Pc (words_on x words) (shown next rs m)) (counter_read next rs m l)
    ∙ goes_to next next' (words_on (next) words) rs m e

pub branch_passed : (operation : BranchOp) (words : ℤ) (next : ℕ) (rs : List ℕ) (m : Machine)
    → is_taken operation m.status.codes ≡ false → branched operation words (shown next rs m) ≡ shown next rs m
branch_passed operation words next rs m t =
    ap (λ (b : Bool). cond b (with_register Pc (words_on (register_of Pc (shown next rs m)) words) (shown next rs m))
    (shown next rs m)) t

-- a value stored as the program counter among the registers has no effect, since the program counter is passed separately
pub beside : (next v : ℕ) (rs rs' : List ℕ) (m : Machine) → rs' ≡ slice_set rs 7 v → shown next rs' m ≡ shown next rs m
beside next v rs rs' m e =
    let to : List ℕ → Machine = λ x. record m { registers = x } in
    ap (λ (x : List ℕ). shown next x m) e ∙ ap to (set-set rs 7 v (next))

-- SOB subtracts 1 from its register, also where the registers are passed separately
count_at : (register : Register) (next left : ℕ) (rs rs' : List ℕ) (m : Machine) → register_number register < 7
    → left ≡ (held rs register + 0o177777) % 0o200000 → rs' ≡ with_held rs register left
    → (left ≡ stepped_back register 1 (shown next rs m))
    × (with_register register left (shown next rs m) ≡ shown next rs' m)
count_at register next left rs rs' m g f e = (
  f ∙ ap (λ (x : ℕ). (x + 0o177777) % 0o200000) (sym (other_register next rs register m g)),
  other_put next left rs register m g ∙ ap (λ (x : List ℕ). shown next x m) (sym e),
)

pub counts_to : (register : Register) (words next next' left : ℕ) (rs rs' : List ℕ) (m : Machine)
    → register_number register < 7 → length rs' ≡ 8
    → left ≡ (held rs register + 0o177777) % 0o200000 → rs' ≡ with_held rs register left
    → (left == 0) ≡ false → next' ≡ (next + (0o200000 - words * 2)) % 0o200000
    → counted_down register words (shown next rs m) ≡ shown next' rs' m
counts_to register words next next' left rs rs' m g l f e z h =
    let at = count_at register next left rs rs' m g f e in
    let go : ℕ → Machine → Machine = λ x y. cond (x == 0) y (with_register Pc (stepped_back Pc (words * 2) y) y) in
    ap (λ (x : ℕ). go x (with_register register x (shown next rs m))) (sym at.0)
    ∙ ap (λ (y : Machine). go left y) at.1
    ∙ ap (λ (b : Bool). cond b (shown next rs' m)
    (with_register Pc (stepped_back Pc (words * 2) (shown next rs' m)) (shown next rs' m))) z
    ∙ ap (λ (x : ℕ). with_register Pc ((x + (0o200000 - words * 2)) % 0o200000) (shown next rs' m)) (counter_read next rs' m l)
    ∙ goes_to next next' ((next + (0o200000 - words * 2)) % 0o200000) rs' m h

pub counts_out : (register : Register) (words next left : ℕ) (rs rs' : List ℕ) (m : Machine)
    → register_number register < 7
    → left ≡ (held rs register + 0o177777) % 0o200000 → rs' ≡ with_held rs register left → (left == 0) ≡ true
    → counted_down register words (shown next rs m) ≡ shown next rs' m
counts_out register words next left rs rs' m g f e z =
    let at = count_at register next left rs rs' m g f e in
    let go : ℕ → Machine → Machine = λ x y. cond (x == 0) y (with_register Pc (stepped_back Pc (words * 2) y) y) in
    ap (λ (x : ℕ). go x (with_register register x (shown next rs m))) (sym at.0)
    ∙ ap (λ (y : Machine). go left y) at.1
    ∙ ap (λ (b : Bool). cond b (shown next rs' m)
    (with_register Pc (stepped_back Pc (words * 2) (shown next rs' m)) (shown next rs' m))) z

-- JMP goes to the address at which its operand is found
pub jumps : (operand : Operand) (a next next' : ℕ) (rs rs' : List ℕ) (m : Machine)
    → location_of operand Word (shown next rs m) ≡ Comes (Ok (InMemory a), shown next' rs' m)
    → jump operand (shown next rs m) ≡ Comes (Ok tt, shown a rs' m)
unfolding jump target
jumps operand a next next' rs rs' m p =
    let to : Machine → Dialogue (Result (Unit {0}) Abort × Machine) = λ x. Comes (Ok tt, x) in
    bind_at (target operand) _ (shown next rs m) (shown next' rs' m) a
    (bind_at (location_of operand Word) _ (shown next rs m) (shown next' rs' m) (InMemory a) p)
    ∙ ap to (goes_to next' a a rs' m refl)

-- ---- the stack

-- a push decrements the stack pointer by 2 and stores the word at the new top of the stack
pub pushes : (v top next : ℕ) (rs rs' : List ℕ) (m : Machine) → top ≡ (held rs Sp + 0o177776) % 0o200000
    → rs' ≡ with_held rs Sp top → is_plain Word top m.memory ≡ true
    → push v (shown next rs m) ≡ Comes (Ok tt, shown next rs' (stored Word top v m))
unfolding push
pushes v top next rs rs' m t f p =
    let below : register_number Sp < 7 = omega arith in
    let back : top ≡ stepped_back Sp 2 (shown next rs m) =
    t ∙ ap (λ (x : ℕ). (x + 0o177776) % 0o200000) (sym (other_register next rs Sp m below)) in
    let at : with_register Sp top (shown next rs m) ≡ shown next rs' m =
    other_put next top rs Sp m below ∙ ap (λ (x : List ℕ). shown next x m) (sym f) in
    ap (λ (x : ℕ). store_word x v (with_register Sp x (shown next rs m))) (sym back)
    ∙ ap (λ (x : Machine). store_word top v x) at ∙ word_stores top v (shown next rs' m) p

-- JSR PC pushes the return address and goes to the address of its operand
pub calls : (operand : Operand) (a top next after : ℕ) (rs rs' rs'' : List ℕ) (m : Machine)
    → location_of operand Word (shown next rs m) ≡ Comes (Ok (InMemory a), shown after rs' m)
    → length rs' ≡ 8
    → top ≡ (held rs' Sp + 0o177776) % 0o200000
    → rs'' ≡ with_held rs' Sp top → is_plain Word top m.memory ≡ true
    → call Pc operand (shown next rs m) ≡ Comes (Ok tt, shown a rs'' (stored Word top (after) m))
unfolding call enter target
calls operand a top next after rs rs' rs'' m p l t f w =
    let to : Machine → Dialogue (Result (Unit {0}) Abort × Machine) = λ x. Comes (Ok tt, x) in
    let m' = stored Word top (after) m in
    let pushed = ap (λ (x : ℕ). push x (shown after rs' m)) (counter_read after rs' m l)
    ∙ pushes (after) top after rs' rs'' m t f w in
    bind_at (target operand) (enter Pc) (shown next rs m) (shown after rs' m) a
    (bind_at (location_of operand Word) _ (shown next rs m) (shown after rs' m) (InMemory a) p)
    ∙ bind_at (push (register_of Pc (shown after rs' m))) _ (shown after rs' m) (shown after rs'' m') tt pushed
    ∙ ap (λ (x : Machine). to (with_register Pc a x))
    (counter_put after (register_of Pc (shown after rs'' m')) rs'' m')
    ∙ ap (λ (x : List ℕ). to (record m' { registers = x })) (set-set rs'' 7 (register_of Pc (shown after rs'' m')) a)

-- JSR of one of R0 to R5 pushes the register, stores the return address in it, and goes to the address of its operand
pub calls_through : (register : Register) (operand : Operand) (a v top next after : ℕ) (rs rs' rs'' rs3 : List ℕ) (m : Machine)
    → register_number register < 6
    → location_of operand Word (shown next rs m) ≡ Comes (Ok (InMemory a), shown after rs' m)
    → length rs'' ≡ 8
    → v ≡ held rs' register
    → top ≡ (held rs' Sp + 0o177776) % 0o200000
    → rs'' ≡ with_held rs' Sp top → rs3 ≡ with_held rs'' register after → is_plain Word top m.memory ≡ true
    → call register operand (shown next rs m) ≡ Comes (Ok tt, shown a rs3 (stored Word top v m))
unfolding call enter target
calls_through register operand a v top next after rs rs' rs'' rs3 m g p l h t f k w =
    let general : register_number register < 7 = omega (arith, g) in
    let to : Machine → Dialogue (Result (Unit {0}) Abort × Machine) = λ x. Comes (Ok tt, x) in
    let m' = stored Word top v m in
    let pushed = ap (λ (x : ℕ). push x (shown after rs' m)) (other_register after rs' register m general ∙ sym h)
    ∙ pushes v top after rs' rs'' m t f w in
    let put : ℕ → Machine = λ x. with_register Pc a (with_register register x (shown after rs'' m')) in
    bind_at (target operand) (enter register) (shown next rs m) (shown after rs' m) a
    (bind_at (location_of operand Word) _ (shown next rs m) (shown after rs' m) (InMemory a) p)
    ∙ bind_at (push (register_of register (shown after rs' m))) _ (shown after rs' m) (shown after rs'' m') tt pushed
    ∙ ap (λ (x : ℕ). to (put x)) (counter_read after rs'' m' l)
    ∙ ap (λ (x : Machine). to (with_register Pc a x))
    (other_put after after rs'' register m' general ∙ ap (λ (x : List ℕ). shown after x m') (sym k))
    ∙ ap to (goes_to after a a rs3 m' refl)

-- RTS loads the program counter, pops a word, and loads its register last
returned : (register : Register) (top word : ℕ) (m n k l : Machine)
    → n ≡ with_register Pc (register_of register m) m → top ≡ register_of Sp n
    → is_plain Word top n.memory ≡ true → word ≡ plain_at Word top n.memory
    → k ≡ advanced Sp 2 n → l ≡ with_register register word k → return_by register m ≡ Comes (Ok tt, l)
unfolding return_by pop
returned register top word m n k l e t p w s r =
    let load : ℕ → Act (Unit {0}) = λ v x. Comes (Ok tt, with_register register v x) in
    let P : ℕ → Type 0 = λ a. is_plain Word a n.memory ≡ true in
    let Q : Machine → Type 0 = λ x. (pop >>= load) x ≡ Comes (Ok tt, l) in
    let to : Machine → Dialogue (Result (Unit {0}) Abort × Machine) = λ x. Comes (Ok tt, x) in
    let popped = word_loads (register_of Sp n) (advanced Sp 2 n) (subst P t p) in
    let value = w ∙ ap (λ (a : ℕ). word_at n.memory a) t in
    let last = r ∙ ap (λ (x : Machine). with_register register word x) s
    ∙ ap (λ (v : ℕ). with_register register v (advanced Sp 2 n)) value in
    subst Q e (bind_at pop load n (advanced Sp 2 n) _ popped ∙ ap to (sym last))

-- RTS PC goes to the popped word
pub returns_to : (top word next : ℕ) (rs rs' : List ℕ) (m : Machine) → length rs ≡ 8 → top ≡ held rs Sp
    → is_plain Word top m.memory ≡ true → word ≡ plain_at Word top m.memory
    → rs' ≡ with_held rs Sp ((top + 2) % 0o200000)
    → return_by Pc (shown next rs m) ≡ Comes (Ok tt, shown word rs' m)
returns_to top word next rs rs' m l t p w f =
    let below : register_number Sp < 7 = omega arith in
    let start : shown next rs m ≡ with_register Pc (register_of Pc (shown next rs m)) (shown next rs m) =
    ap (λ (x : ℕ). record m { registers = slice_set rs 7 x }) (sym (counter_read next rs m l))
    ∙ sym (counter_put next (register_of Pc (shown next rs m)) rs m) in
    let stepped : shown next rs' m ≡ advanced Sp 2 (shown next rs m) =
    ap (λ (x : List ℕ). shown next x m) f
    ∙ ap (λ (x : ℕ). shown next (with_held rs Sp ((x + 2) % 0o200000)) m) t
    ∙ sym (other_put next ((held rs Sp + 2) % 0o200000) rs Sp m below)
    ∙ ap (λ (x : ℕ). with_register Sp ((x + 2) % 0o200000) (shown next rs m)) (sym (other_register next rs Sp m below)) in
    returned Pc top word (shown next rs m) (shown next rs m) (shown next rs' m) (shown word rs' m)
    start (t ∙ sym (other_register next rs Sp m below)) p w stepped (sym (goes_to next word word rs' m refl))

-- RTS of one of R0 to R5 goes to the register's old value, and loads the register with the popped word
pub returns_through : (register : Register) (top word target next : ℕ) (rs rs' rs'' : List ℕ) (m : Machine)
    → register_number register < 6 → target ≡ held rs register → top ≡ held rs Sp
    → is_plain Word top m.memory ≡ true → word ≡ plain_at Word top m.memory
    → rs' ≡ with_held rs Sp ((top + 2) % 0o200000) → rs'' ≡ with_held rs' register word
    → return_by register (shown next rs m) ≡ Comes (Ok tt, shown target rs'' m)
returns_through register top word target next rs rs' rs'' m g h t p w f k =
    let general : register_number register < 7 = omega (arith, g) in
    let below : register_number Sp < 7 = omega arith in
    let start : shown target rs m ≡ with_register Pc (register_of register (shown next rs m)) (shown next rs m) =
    ap (λ (x : ℕ). shown x rs m) (h ∙ sym (other_register next rs register m general))
    ∙ sym (counter_put next (register_of register (shown next rs m)) rs m) in
    let stepped : shown target rs' m ≡ advanced Sp 2 (shown target rs m) =
    ap (λ (x : List ℕ). shown target x m) f
    ∙ ap (λ (x : ℕ). shown target (with_held rs Sp ((x + 2) % 0o200000)) m) t
    ∙ sym (other_put target ((held rs Sp + 2) % 0o200000) rs Sp m below)
    ∙ ap (λ (x : ℕ). with_register Sp ((x + 2) % 0o200000) (shown target rs m)) (sym (other_register target rs Sp m below)) in
    returned register top word (shown next rs m) (shown target rs m) (shown target rs' m) (shown target rs'' m)
    start (t ∙ sym (other_register target rs Sp m below)) p w stepped
    (ap (λ (x : List ℕ). shown target x m) k ∙ sym (other_put target word rs' register m general))

-- a pop, of which RTI makes two, reads the word at the top of the stack and increments the stack pointer by 2
pops : (top word next : ℕ) (rs rs' : List ℕ) (m : Machine) → top ≡ held rs Sp
    → is_plain Word top m.memory ≡ true → word ≡ plain_at Word top m.memory
    → rs' ≡ with_held rs Sp ((top + 2) % 0o200000) → pop (shown next rs m) ≡ Comes (Ok word, shown next rs' m)
unfolding pop
pops top word next rs rs' m t p w f =
    let below : register_number Sp < 7 = omega arith in
    let came : ℕ → Machine → Dialogue (Result ℕ Abort × Machine) = λ v x. Comes (Ok v, x) in
    let read : top ≡ register_of Sp (shown next rs m) = t ∙ sym (other_register next rs Sp m below) in
    let stepped : shown next rs' m ≡ advanced Sp 2 (shown next rs m) =
    ap (λ (x : List ℕ). shown next x m) f
    ∙ sym (other_put next ((top + 2) % 0o200000) rs Sp m below)
    ∙ ap (λ (x : ℕ). with_register Sp ((x + 2) % 0o200000) (shown next rs m)) read in
    ap (λ (a : ℕ). load_word a (advanced Sp 2 (shown next rs m))) (sym read)
    ∙ word_loads top (advanced Sp 2 (shown next rs m)) p
    ∙ ap (λ (v : ℕ). came v (advanced Sp 2 (shown next rs m))) (sym w)
    ∙ ap (came word) (sym stepped)

pub returns_from_trap : (top second target bits next : ℕ) (rs rs' rs'' : List ℕ) (m : Machine) (status : ProcessorStatus)
    → length rs ≡ 8 → top ≡ held rs Sp → second ≡ (top + 2) % 0o200000
    → is_plain Word top m.memory ≡ true → target ≡ plain_at Word top m.memory
    → is_plain Word second m.memory ≡ true → bits ≡ plain_at Word second m.memory
    → status ≡ status_of bits
    → rs' ≡ with_held rs Sp second → rs'' ≡ with_held rs' Sp ((second + 2) % 0o200000)
    → return_from_trap (shown next rs m) ≡ Comes (Ok tt, shown target rs'' (record m { status = status }))
unfolding return_from_trap
returns_from_trap top second target bits next rs rs' rs'' m status l t s p w q v e f k =
    let below : register_number Sp < length rs = omega arith in
    let to : ProcessorStatus → Dialogue (Result (Unit {0}) Abort × Machine) =
    λ x. Comes (Ok tt, shown target rs'' (record m { status = x })) in
    let load : ℕ → Act (Unit {0}) = λ x n. Comes (Ok tt, record n { status = status_of x }) in
    let again : second ≡ held rs' Sp =
    sym (ap (λ (x : List ℕ). held x Sp) f ∙ get_or-set_same rs (register_number Sp) second 0 below) in
    bind_at pop _ (shown next rs m) (shown next rs' m) target
    (pops top target next rs rs' m t p w (f ∙ ap (λ (x : ℕ). with_held rs Sp x) s))
    ∙ ap (λ (x : Machine). (pop >>= load) x) (goes_to next target target rs' m refl)
    ∙ bind_at pop load (shown target rs' m) (shown target rs'' m) bits (pops second bits target rs' rs'' m again q v k)
    ∙ ap to (sym e)

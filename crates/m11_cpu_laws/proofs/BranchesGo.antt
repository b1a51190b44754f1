-- Where branches, SOB and MARK go.
use Rattle.std.proofs.Common.{◌≡◌, ◌≢◌, ℕ, ◌+◌, ◌-◌, ◌*◌, ◌%◌, ◌<◌, ◌==◌, suc, Bool, true, false, cond, length, Result, Ok, refl, sym, ◌∙◌, ap, subst, arith}
use Rattle.std.specs.Prelude.{ℤ, pos, negsuc, nat_lt, ◌≤◌}
use Rattle.std.proofs.lemmas.Bool.{ltb-false, ltb-true, ne_eqb}
use Rattle.m11_cpu_arithmetic.specs.Branches.{is_taken}
use Rattle.m11_base.specs.Words.{modulo}
use Rattle.m11_base.specs.Operand.{register_number}
use Rattle.m11_base.specs.declared.instruction.BranchOp.{BranchOp}
use Rattle.m11_base.specs.declared.instruction.Insn.TheVariants as insn
use Rattle.m11_base.specs.declared.instruction.NumberOp.TheVariants.{Mark}
use Rattle.m11_base.specs.declared.operand.Register.{Register}
use Rattle.m11_base.specs.declared.operand.Register.TheVariants.{R5, Sp, Pc}
use Rattle.m11_cpu_machine.specs.Dialogue.{Comes, Dialogue}
use Rattle.m11_cpu_machine.specs.Execution.{execute, numbered}
use Rattle.m11_cpu_machine.specs.Jumps.{mark, pop, words_on}
use Rattle.m11_cpu_machine.specs.Machine.{advanced, register_of, with_register}
use Rattle.m11_cpu_machine.specs.declared.abort.Abort.{Abort}
use Rattle.m11_cpu_machine.specs.declared.execution.Ending.{Ending}
use Rattle.m11_cpu_machine.specs.declared.execution.Ending.TheVariants as ending
use Rattle.m11_cpu_machine.specs.declared.machine.Machine.{Machine}
use Rattle.m11_cpu_machine.proofs.AtOnce.{bind_at, cond_not}
use Rattle.m11_cpu_machine.proofs.RegistersPut.{put_same}
use Rattle.m11_cpu_laws.specs.Branching.{BranchGoes, Leaves, MarkGoes, SobGoes}
use Rattle.m11_cpu_laws.specs.Operands.{less, memory_at}
use Rattle.m11_cpu_laws.specs.Returns.{IsWordInside}
use Rattle.m11_cpu_laws.proofs.StepsInMemory.{pop_inside}
use Rattle.m11_cpu_laws.proofs.WordsPut.{put_other}

abbrev ended_in : Machine → Dialogue (Result Ending Abort × Machine)
ended_in m = Comes (Ok ending.Next, m)

taken_so : (taken : Bool) (a b : Machine) → taken ≡ true → cond taken a b ≡ a
taken_so taken a b e = ap (λ (t : Bool). cond t a b) e

-- ---- branches

words_forward : (address words : ℕ) → words_on address (pos words) ≡ (address + 2 * words) % 0o200000
words_forward address words = omega arith

-- an address minus at most 256 bytes, which may be below 0, is `less` modulo octal 200000
difference : (below : Bool) (address bytes : ℕ) → nat_lt address bytes ≡ below → bytes ≤ 256
    → modulo 0o200000 (cond below (negsuc (bytes - suc address)) (pos (address - bytes))) ≡ less bytes address
difference true address bytes e few = let l = ltb-true address bytes e in omega arith
difference false address bytes e few = let l = ltb-false address bytes e in omega arith

words_backward : (address words : ℕ) → words < 128
    → words_on address (negsuc words) ≡ less (2 * (words + 1)) address
words_backward address words below =
    let bytes = suc (suc (words + words)) in
    let same : bytes ≡ 2 * (words + 1) = omega arith in
    difference (nat_lt address bytes) address bytes refl (omega arith)
    ∙ ap (λ (k : ℕ). less k address) same

gone_to : (operation : BranchOp) (words : ℤ) (address : ℕ) (m : Machine) → is_taken operation m.status.codes ≡ true
    → words_on (register_of Pc m) words ≡ address
    → Leaves (insn.Branch operation words) m (with_register Pc address m)
unfolding execute
gone_to operation words address m e f =
    ap ended_in (taken_so (is_taken operation m.status.codes) _ m e ∙ ap (λ (a : ℕ). with_register Pc a m) f)

stayed : (operation : BranchOp) (words : ℤ) (m : Machine) → is_taken operation m.status.codes ≡ false
    → Leaves (insn.Branch operation words) m m
unfolding execute
stayed operation words m e = ap ended_in (cond_not (is_taken operation m.status.codes) _ m e)

pub branch_goes : (operation : BranchOp) (m : Machine) → BranchGoes operation m
branch_goes operation m = record {
  on = λ words e. gone_to operation (pos words) _ m e (words_forward (register_of Pc m) words);
  back = λ words below e. gone_to operation (negsuc words) _ m e (words_backward (register_of Pc m) words below);
  not_taken = λ words e. stayed operation words m e;
}

-- ---- SOB

sob_ends : (register : Register) (words : ℕ) (m : Machine) → less 1 (register_of register m) ≡ 0
    → Leaves (insn.Sob register words) m (with_register register 0 m)
unfolding execute
sob_ends register words m e =
    let count = less 1 (register_of register m) in
    ap ended_in (taken_so (count == 0) (with_register register count m) _ (ap (λ (n : ℕ). n == 0) e)
    ∙ ap (λ (n : ℕ). with_register register n m) e)

sob_repeats : (register : Register) (words : ℕ) (m : Machine) → less 1 (register_of register m) ≢ 0
    → register_number register ≢ register_number Pc
    → Leaves (insn.Sob register words) m
    (with_register Pc (less (2 * words) (register_of Pc m)) (with_register register (less 1 (register_of register m)) m))
unfolding execute
sob_repeats register words m ne apart =
    let count = less 1 (register_of register m) in
    let n = with_register register count m in
    let other : register_number Pc ≢ register_number register = λ e. apart (sym e) in
    let same : register_of Pc n ≡ register_of Pc m = put_other Pc register count m other in
    let to : (register_of Pc n + (0o200000 - words * 2)) % 0o200000 ≡ less (2 * words) (register_of Pc m) =
    omega (arith, same) in
    ap ended_in (cond_not (count == 0) n _ (ne_eqb count 0 ne) ∙ ap (λ (a : ℕ). with_register Pc a n) to)

pub sob_goes : (register : Register) (words : ℕ) (m : Machine) → SobGoes register words m
sob_goes register words m = record {
  ends = λ e. sob_ends register words m e;
  repeats = λ ne apart. sob_repeats register words m ne apart;
}

-- ---- MARK

mark_leaves : (number top : ℕ) (m : Machine) → length m.registers ≡ 8
    → top ≡ (register_of Pc m + number * 2) % 0o200000 → IsWordInside top m
    → mark number m
    ≡ Comes (
      Ok tt,
      with_register R5 (memory_at top m) (with_register Sp ((top + 2) % 0o200000)
          (with_register Pc (register_of R5 m) (with_register Sp top m))),
    )
unfolding mark
mark_leaves number top m count e inside =
    let apart : register_number Sp ≢ register_number Pc = λ f. omega arith in
    let apart' : register_number R5 ≢ register_number Sp = λ f. omega arith in
    let first = (register_of Pc m + number * 2) % 0o200000 in
    let cut = with_register Sp first m in
    let n = with_register Pc (register_of R5 cut) cut in
    let stack : register_of Sp n ≡ top =
    put_other Sp Pc (register_of R5 cut) cut apart ∙ put_same Sp first m count ∙ sym e in
    let P : ℕ → Type 0 = λ a. IsWordInside a m in
    let link : register_of R5 cut ≡ register_of R5 m = put_other R5 Sp first m apart' in
    let left : ℕ → ℕ → ℕ → Machine = λ at sp five.
    with_register R5 (memory_at at m) (with_register Sp ((at + 2) % 0o200000)
    (with_register Pc five (with_register Sp sp m))) in
    let done : Machine → Dialogue (Result (Unit {0}) Abort × Machine) = λ o. Comes (Ok tt, o) in
    bind_at pop _ n (advanced Sp 2 n) _ (pop_inside n (subst P (sym stack) inside))
    ∙ ap (λ (at : ℕ). done (left at first (register_of R5 cut))) stack
    ∙ ap (λ (sp : ℕ). done (left top sp (register_of R5 cut))) (sym e)
    ∙ ap (λ (five : ℕ). done (left top top five)) link

twice : (n : ℕ) → 2 * n ≡ n * 2
twice n = omega arith

pub mark_goes : (number : ℕ) (m : Machine) → MarkGoes number m
unfolding execute numbered
mark_goes number m = record {
  goes = λ count inside.
      bind_at (numbered Mark number) _ m _ tt
      (mark_leaves number ((register_of Pc m + 2 * number) % 0o200000) m count
      (ap (λ (k : ℕ). (register_of Pc m + k) % 0o200000) (twice number)) inside);
}

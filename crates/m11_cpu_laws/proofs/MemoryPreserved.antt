-- The bytes that a store to memory leaves unchanged, and the acts that store nothing there.
use Rattle.std.proofs.Common.{◌≡◌, ℕ, ◌+◌, ◌*◌, ◌/◌, ◌%◌, ◌==◌, Bool, true, false, cond, List, [], ◌∷◌, ◌++◌, length, ◌∙◌, ap}
use Rattle.std.proofs.lemmas.List.{get_or-set_other, length-set}
use Rattle.std.specs.Prelude.{ℤ}
use Rattle.m11_base.specs.declared.instruction.BareOp.{BareOp}
use Rattle.m11_base.specs.declared.instruction.BareOp.TheVariants.{Halt, Wait, Rti, Bpt, Iot, Reset, Rtt}
use Rattle.m11_base.specs.declared.instruction.BranchOp.{BranchOp}
use Rattle.m11_base.specs.declared.instruction.DoubleOp.{DoubleOp}
use Rattle.m11_base.specs.declared.instruction.ExtendedOp.{ExtendedOp}
use Rattle.m11_base.specs.declared.instruction.ExtendedOp.TheVariants.{Mul, Div, Ash, Ashc}
use Rattle.m11_base.specs.declared.instruction.SingleOp.{SingleOp}
use Rattle.m11_base.specs.declared.operand.Operand.{Operand}
use Rattle.m11_base.specs.declared.operand.Register.{Register}
use Rattle.m11_base.specs.declared.operand.Register.TheVariants.{R5, Sp, Pc}
use Rattle.m11_base.specs.declared.operand.Size.{Size}
use Rattle.m11_base.specs.declared.operand.Size.TheVariants.{Word}
use Rattle.m11_cpu_arithmetic.specs.Branches.{is_taken}
use Rattle.m11_cpu_arithmetic.specs.Extended.{division_of}
use Rattle.m11_cpu_arithmetic.specs.declared.results.Division.{Division}
use Rattle.m11_cpu_arithmetic.specs.declared.results.Division.TheVariants.{Done, Refused}
use Rattle.m11_cpu_machine.specs.DoubleOperands.{compare}
use Rattle.m11_cpu_machine.specs.Execution.{bare, return_from_trap}
use Rattle.m11_cpu_machine.specs.Extended.{after_division, extended, extended_by, low_word_of}
use Rattle.m11_cpu_machine.specs.Jumps.{branched, counted_down, jump, mark, pop, return_by, target, words_on}
use Rattle.m11_cpu_machine.specs.Machine.{register_of, with_register}
use Rattle.m11_cpu_machine.specs.Memory.{byte_at, with_byte, with_word}
use Rattle.m11_cpu_machine.specs.Addressing.{back, fetch, fetch_operand, location_of, next_word}
use Rattle.m11_cpu_machine.specs.SingleOperands.{test_operand}
use Rattle.m11_cpu_laws.specs.Writes.{IsNoneOf, word_bytes}
use Rattle.m11_cpu_machine.specs.declared.machine.Machine.{Machine}
use Rattle.m11_cpu_machine.specs.declared.addressing.OperandLocation.{OperandLocation}
use Rattle.m11_cpu_laws.proofs.AddressesLeave.{code_keeps, fetch_keeps, jump_target_keeps, operand_keeps, pop_keeps, source_keeps}
use Rattle.m11_cpu_laws.proofs.Parts.{at_comes, Keeps, keeps_bind}

-- ---- memory

pub record Kept (written : List ℕ) (old new : List ℕ) : Type 0 where
  pub size : length new ≡ length old
  pub bytes : (address : ℕ) → IsNoneOf address written → byte_at new address ≡ byte_at old address

pub kept_same : (written old new : List ℕ) → new ≡ old → Kept written old new
kept_same written old new e = record {
  size = ap length e;
  bytes = λ address outside. ap (λ (bytes : List ℕ). byte_at bytes address) e;
}

pub kept_byte : (address v : ℕ) (old memory : List ℕ) → memory ≡ old
    → Kept (address ∷ []) old (with_byte address v memory)
kept_byte address v old memory e = record {
  size = length-set memory address v ∙ ap length e;
  bytes = λ other outside.
      get_or-set_other memory address other v 0 outside.0 ∙ ap (λ (bytes : List ℕ). byte_at bytes other) e;
}

pub kept_word : (address v : ℕ) (old memory : List ℕ) → memory ≡ old
    → Kept (word_bytes address) old (with_word address v memory)
kept_word address v old memory e = record {
  size = length-set (with_byte address (v % 256) memory) (address + 1) (v / 256) ∙ length-set memory address (v % 256)
      ∙ ap length e;
  bytes = λ other outside.
      get_or-set_other (with_byte address (v % 256) memory) (address + 1) other (v / 256) 0 outside.1.0
      ∙ get_or-set_other memory address other (v % 256) 0 outside.0
      ∙ ap (λ (bytes : List ℕ). byte_at bytes other) e;
}

pub none_left : (address : ℕ) (some others : List ℕ) → IsNoneOf address (some ++ others) → IsNoneOf address some
none_left address [] others h = tt
none_left address (a ∷ some) others h = (h.0, none_left address some others h.1)

pub none_right : (address : ℕ) (some others : List ℕ) → IsNoneOf address (some ++ others) → IsNoneOf address others
none_right address [] others h = h
none_right address (a ∷ some) others h = none_right address some others h.1

pub kept_more : (some others first second third : List ℕ) → Kept some first second → Kept others second third
    → Kept (some ++ others) first third
kept_more some others first second third k l = record {
  size = l.size ∙ k.size;
  bytes = λ address outside.
      l.bytes address (none_right address some others outside) ∙ k.bytes address
      (none_left address some others outside);
}

-- ---- acts that write no memory

abbrev pub Same : List ℕ → Machine → Type 0
Same memory n = n.memory ≡ memory

module _ (memory : List ℕ) where
  pub code_quiet : (m : Machine) → Same memory m → Keeps (Same memory) (next_word m)
  code_quiet m e = code_keeps (Same memory) (λ n r i. i) (λ r n v i. i) m e

  pub location_quiet : (operand : Operand) (size : Size) (m : Machine) → Same memory m
      → Keeps (Same memory) (location_of operand size m)
  location_quiet operand size m e = operand_keeps (Same memory) (λ n r i. i) (λ r n v i. i) operand size m e

  pub target_quiet : (operand : Operand) (m : Machine) → Same memory m → Keeps (Same memory) (target operand m)
  target_quiet operand m e = jump_target_keeps (Same memory) (λ n r i. i) (λ r n v i. i) operand m e

  pub fetch_quiet : (location : OperandLocation) (size : Size) (m : Machine) → Same memory m
      → Keeps (Same memory) (fetch location size m)
  fetch_quiet location size m e = fetch_keeps (Same memory) (λ n r i. i) (λ r n v i. i) location size m e

  pub source_quiet : (operand : Operand) (size : Size) (m : Machine) → Same memory m
      → Keeps (Same memory) (fetch_operand operand size m)
  source_quiet operand size m e = source_keeps (Same memory) (λ n r i. i) (λ r n v i. i) operand size m e

  pop_quiet : (m : Machine) → Same memory m → Keeps (Same memory) (pop m)
  pop_quiet m e = pop_keeps (Same memory) (λ n r i. i) (λ r n v i. i) m e

  pub compare_quiet : (operation : DoubleOp) (location : OperandLocation) (size : Size) (source : ℕ) (m : Machine) → Same memory m
      → Keeps (Same memory) (compare operation location size source m)
  unfolding compare
  compare_quiet operation location size source m e =
      keeps_bind (Same memory) (fetch location size) _ m (fetch_quiet location size m e) (λ value n i. at_comes i)

  pub test_quiet : (operation : SingleOp) (size : Size) (operand : Operand) (m : Machine) → Same memory m
      → Keeps (Same memory) (test_operand operation size operand m)
  unfolding test_operand
  test_quiet operation size operand m e =
      keeps_bind (Same memory) (fetch_operand operand size) _ m (source_quiet operand size m e)
      (λ value n i. at_comes i)

  division_quiet : (register : Register) (division : Division) (m : Machine) → Same memory m
      → Same memory (after_division register division m)
  division_quiet register (Done quotient remainder codes) m e = e
  division_quiet register (Refused codes) m e = e

  extended_same : (operation : ExtendedOp) (register : Register) (source : ℕ) (m : Machine) → Same memory m
      → Same memory (extended_by operation register source m)
  extended_same Mul register source m e = e
  extended_same Div register source m e =
      division_quiet register (division_of (register_of register m) (register_of (low_word_of register) m) source) m e
  extended_same Ash register source m e = e
  extended_same Ashc register source m e = e

  pub extended_quiet : (operation : ExtendedOp) (register : Register) (source : Operand) (m : Machine) → Same memory m
      → Keeps (Same memory) (extended operation register source m)
  unfolding extended
  extended_quiet operation register source m e =
      keeps_bind (Same memory) (fetch_operand source Word) _ m (source_quiet source Word m e)
      (λ value n i. at_comes (extended_same operation register value n i))

  pub jump_quiet : (operand : Operand) (m : Machine) → Same memory m → Keeps (Same memory) (jump operand m)
  unfolding jump
  jump_quiet operand m e =
      keeps_bind (Same memory) (target operand) _ m (target_quiet operand m e) (λ address n i. at_comes i)

  pub return_quiet : (register : Register) (m : Machine) → Same memory m → Keeps (Same memory) (return_by register m)
  unfolding return_by
  return_quiet register m e =
      keeps_bind (Same memory) pop _ (with_register Pc (register_of register m) m)
      (pop_quiet (with_register Pc (register_of register m) m) e) (λ word n i. at_comes i)

  pub mark_quiet : (words : ℕ) (m : Machine) → Same memory m → Keeps (Same memory) (mark words m)
  unfolding mark
  mark_quiet words m e =
      let cut = with_register Sp ((register_of Pc m + words * 2) % 0o200000) m in
      keeps_bind (Same memory) pop _ (with_register Pc (register_of R5 cut) cut)
      (pop_quiet (with_register Pc (register_of R5 cut) cut) e) (λ word n i. at_comes i)

  from_trap_quiet : (m : Machine) → Same memory m → Keeps (Same memory) (return_from_trap m)
  unfolding return_from_trap
  from_trap_quiet m e =
      keeps_bind (Same memory) pop _ m (pop_quiet m e)
      (λ address n i. keeps_bind (Same memory) pop _ (with_register Pc address n)
      (pop_quiet (with_register Pc address n) i)
      (λ bits o j. at_comes j))

  pub bare_quiet : (operation : BareOp) (m : Machine) → Same memory m → Keeps (Same memory) (bare operation m)
  unfolding bare
  bare_quiet Halt m e = at_comes e
  bare_quiet Wait m e = at_comes e
  bare_quiet Rti m e = keeps_bind (Same memory) return_from_trap _ m (from_trap_quiet m e) (λ u n i. at_comes i)
  bare_quiet Rtt m e = keeps_bind (Same memory) return_from_trap _ m (from_trap_quiet m e) (λ u n i. at_comes i)
  bare_quiet Bpt m e = at_comes e
  bare_quiet Iot m e = at_comes e
  bare_quiet Reset m e = at_comes e

  -- a choice between two machines with this memory has this memory
  either_same : (test : Bool) (a b : Machine) → Same memory a → Same memory b → Same memory (cond test a b)
  either_same true a b e f = e
  either_same false a b e f = f

  pub branched_same : (operation : BranchOp) (words : ℤ) (m : Machine) → Same memory m
      → Same memory (branched operation words m)
  branched_same operation words m e =
      either_same (is_taken operation m.status.codes) (with_register Pc (words_on (register_of Pc m) words) m) m e e

  pub counted_same : (register : Register) (words : ℕ) (m : Machine) → Same memory m
      → Same memory (counted_down register words m)
  counted_same register words m e =
      either_same ((back register 1 m).0 == 0) (back register 1 m).1 (back Pc (words * 2) (back register 1 m).1).1 e e

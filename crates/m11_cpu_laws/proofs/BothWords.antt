-- The extended set with an odd register.
use Rattle.std.proofs.Common.{◌≡◌, ℕ, length, refl, sym, subst}
use Rattle.m11_cpu_arithmetic.specs.Extended.{division_of, product_of}
use Rattle.m11_cpu_arithmetic.specs.Shifts.{shift_pair_result}
use Rattle.m11_cpu_arithmetic.specs.declared.results.Division.{Division}
use Rattle.m11_cpu_arithmetic.specs.declared.results.Division.TheVariants.{Done, Refused}
use Rattle.m11_base.specs.declared.operand.Register.{Register}
use Rattle.m11_base.specs.declared.operand.Register.TheVariants.{R0, R1, R2, R3, R4, R5, Sp, Pc}
use Rattle.m11_cpu_machine.specs.Extended.{after_division, low_word_of}
use Rattle.m11_cpu_machine.specs.Machine.{register_of, with_register}
use Rattle.m11_cpu_machine.specs.declared.machine.Machine.{Machine}
use Rattle.m11_cpu_machine.proofs.RegistersPut.{put_same}
use Rattle.m11_cpu_laws.specs.OddRegisters.{IsBothWords, OddRegisters}
use Rattle.m11_cpu_laws.proofs.WordsPut.{put_length}

-- if two words are stored in one register, the later one stays
put_last : (register : Register) (high low : ℕ) (m : Machine) → length m.registers ≡ 8
    → register_of register (with_register register low (with_register register high m)) ≡ low
put_last register high low m count = put_same register low (with_register register high m) (put_length register high m count)

-- a register that holds the low word of its own pair serves as both words
both_words : (register : Register) (source : ℕ) (m : Machine) → low_word_of register ≡ register
    → length m.registers ≡ 8 → IsBothWords register source m
both_words register source m own count =
    let v = register_of register m in
    record {
      product =
          let pair = product_of v source in
          let P : Register → Type 0 = λ other.
          register_of register (with_register other pair.low (with_register register pair.high m)) ≡ pair.low in
          subst P (sym own) (put_last register pair.high pair.low m count);
      remainder = λ quotient left codes e.
          let Q : Division → Type 0 = λ d. register_of register (after_division register d m) ≡ left in
          let P : Register → Type 0 = λ other.
          register_of register (with_register other left (with_register register quotient m)) ≡ left in
          let R : Register → Type 0 = λ other.
          division_of v (register_of other m) source ≡ Done quotient left codes in
          subst Q (sym (subst R (sym own) e)) (subst P (sym own) (put_last register quotient left m count));
      refused = λ codes e.
          let Q : Division → Type 0 = λ d. register_of register (after_division register d m) ≡ v in
          let R : Register → Type 0 = λ other. division_of v (register_of other m) source ≡ Refused codes in
          subst Q (sym (subst R (sym own) e)) refl;
      shifted =
          let P : Register → Type 0 = λ other.
          let pair = shift_pair_result v (register_of other m) source in
          register_of register (with_register other pair.low (with_register register pair.high m))
          ≡ (shift_pair_result v v source).low in
          let pair = shift_pair_result v v source in
          subst P (sym own) (put_last register pair.high pair.low m count);
    }

pub odd_registers : (register : Register) (source : ℕ) (m : Machine) → OddRegisters register source m
odd_registers R0 source m e count = absurd (cc)
odd_registers R1 source m e count = both_words R1 source m refl count
odd_registers R2 source m e count = absurd (cc)
odd_registers R3 source m e count = both_words R3 source m refl count
odd_registers R4 source m e count = absurd (cc)
odd_registers R5 source m e count = both_words R5 source m refl count
odd_registers Sp source m e count = absurd (cc)
odd_registers Pc source m e count = both_words Pc source m refl count

-- Where each mode finds its operand.
use Rattle.std.proofs.Common.{◌≡◌, ℕ, ◌+◌, ◌%◌, length, Ok, refl, sym, ◌∙◌, subst, arith}
use Rattle.m11_base.specs.declared.operand.Mode.TheVariants as mode
use Rattle.m11_base.specs.declared.operand.Register.{Register}
use Rattle.m11_base.specs.declared.operand.Register.TheVariants.{Pc}
use Rattle.m11_base.specs.declared.operand.Size.{Size}
use Rattle.m11_base.specs.declared.operand.Size.TheVariants.{Word, Byte}
use Rattle.m11_cpu_machine.specs.Access.{load_word}
use Rattle.m11_cpu_machine.specs.Addressing.{deferred, fetch, fetch_operand, indexed, location_of, next_word}
use Rattle.m11_cpu_machine.specs.Dialogue.{Comes}
use Rattle.m11_cpu_machine.specs.Machine.{advanced, register_of}
use Rattle.m11_cpu_machine.specs.declared.addressing.OperandLocation.TheVariants.{InMemory}
use Rattle.m11_cpu_machine.specs.declared.machine.Machine.{Machine}
use Rattle.m11_cpu_machine.proofs.AtOnce.{bind_at}
use Rattle.m11_cpu_machine.proofs.RegistersPut.{put_same}
use Rattle.m11_cpu_laws.specs.Operands.{EightModes, FormsOfCounter, indexed_at, IsFoundAt, memory_at, operand_by}
use Rattle.m11_cpu_laws.specs.Returns.{IsWordInside}
use Rattle.m11_cpu_laws.proofs.StepsInMemory.{load_inside, next_inside}
use Rattle.m11_cpu_laws.proofs.WordsPut.{put_other}

deferred_inside : (address : ℕ) (m : Machine) → IsWordInside address m
    → deferred address m ≡ Comes (Ok (InMemory (memory_at address m)), m)
unfolding deferred
deferred_inside address m i = bind_at (load_word address) _ m m _ (load_inside address m i)

indexed_inside : (register : Register) (m : Machine) → IsWordInside (register_of Pc m) m
    → indexed register m ≡ Comes (Ok (indexed_at register m), advanced Pc 2 m)
unfolding indexed
indexed_inside register m i = bind_at next_word _ m (advanced Pc 2 m) _ (next_inside m i)

index_found : (register : Register) (size : Size) (m : Machine) → IsWordInside (register_of Pc m) m
    → IsFoundAt mode.Index register size m (indexed_at register m) (advanced Pc 2 m)
unfolding location_of
index_found register size m i = bind_at (indexed register) _ m (advanced Pc 2 m) _ (indexed_inside register m i)

index_deferred_found : (register : Register) (size : Size) (m : Machine) → IsWordInside (register_of Pc m) m
    → IsWordInside (indexed_at register m) m
    → IsFoundAt mode.IndexDeferred register size m (memory_at (indexed_at register m) m) (advanced Pc 2 m)
unfolding location_of
index_deferred_found register size m i j =
    bind_at (indexed register) deferred m (advanced Pc 2 m) _ (indexed_inside register m i)
    ∙ deferred_inside (indexed_at register m) (advanced Pc 2 m) j

pub eight_modes : (register : Register) (size : Size) (m : Machine) → EightModes register size m
unfolding location_of
eight_modes register size m = record {
  direct = refl;
  deferred = refl;
  autoincrement = refl;
  autoincrement_deferred = λ i. deferred_inside (register_of register m) (advanced register 2 m) i;
  autodecrement = refl;
  autodecrement_deferred = λ i. deferred_inside _ _ i;
  index = λ i. index_found register size m i;
  index_deferred = λ i j. index_deferred_found register size m i j;
  index_register = λ ne. put_other register Pc _ m ne;
}

-- the program counter steps by 2, even for a byte
immediate_found : (size : Size) (m : Machine)
    → IsFoundAt mode.Autoincrement Pc size m (register_of Pc m) (advanced Pc 2 m)
unfolding location_of
immediate_found Word m = refl
immediate_found Byte m = refl

immediate_fetched : (m : Machine) → IsWordInside (register_of Pc m) m
    → fetch_operand (operand_by mode.Autoincrement Pc) Word m
    ≡ Comes (Ok (memory_at (register_of Pc m) m), advanced Pc 2 m)
unfolding fetch_operand fetch
immediate_fetched m i =
    bind_at (location_of (operand_by mode.Autoincrement Pc) Word) _ m (advanced Pc 2 m) _ (immediate_found Word m)
    ∙ load_inside (register_of Pc m) (advanced Pc 2 m) i

absolute_found : (size : Size) (m : Machine) → IsWordInside (register_of Pc m) m
    → IsFoundAt mode.AutoincrementDeferred Pc size m (memory_at (register_of Pc m) m) (advanced Pc 2 m)
unfolding location_of
absolute_found size m i = deferred_inside (register_of Pc m) (advanced Pc 2 m) i

relative_at : (m : Machine) → length m.registers ≡ 8
    → indexed_at Pc m ≡ (memory_at (register_of Pc m) m + (register_of Pc m + 2)) % 0o200000
relative_at m count =
    let counter = put_same Pc ((register_of Pc m + 2) % 0o200000) m count in omega (arith, counter)

pub forms_of_counter : (size : Size) (m : Machine) → length m.registers ≡ 8 → FormsOfCounter size m
forms_of_counter size m count = record {
  immediate = immediate_found size m;
  immediate_word = λ i. immediate_fetched m i;
  absolute = λ i. absolute_found size m i;
  relative = λ i.
      let P : ℕ → Type 0 = λ a. IsFoundAt mode.Index Pc size m a (advanced Pc 2 m) in
      subst P (relative_at m count) (index_found Pc size m i);
  relative_deferred = λ i j.
      let P : ℕ → Type 0 = λ a. IsFoundAt mode.IndexDeferred Pc size m (memory_at a m) (advanced Pc 2 m) in
      let Q : ℕ → Type 0 = λ a. IsWordInside a m in
      subst P (relative_at m count) (index_deferred_found Pc size m i (subst Q (sym (relative_at m count)) j));
  counter = put_same Pc _ m count;
}

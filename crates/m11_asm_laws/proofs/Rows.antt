-- The word stored for a name, with or without an addition.
use Rattle.std.proofs.Common.{◌≡◌, ◌∙◌, ℕ, ◌+◌, ◌<◌, ◌==◌, Bool, true, false, if◌then◌else◌, refl, sym, ap, arith}
use Rattle.std.proofs.lemmas.Bool.{eqb-true}
use Rattle.m11_base.specs.Rad50.{Name}
use Rattle.m11_link_text.specs.Findings.{Findings}
use Rattle.m11_link_text.specs.Relocation.{following, less, modulo, stored_bytes, symbol, value_bytes}
use Rattle.m11_obj.specs.declared.relocations.Target.TheVariants as target
use Rattle.m11_asm_laws.specs.Targets.{AreWords}

nothing_added : (base : ℕ) → base < 65536 → base ≡ modulo (base + 0)
nothing_added base within = omega arith

-- with the constant 0, a word equals its sum with the constant
with_zero : (base constant : ℕ) → base < 65536 → (constant == 0) ≡ true → base ≡ modulo (base + constant)
with_zero base constant within e =
    nothing_added base within ∙ ap (λ (n : ℕ). modulo (base + n)) (sym (eqb-true constant 0 e))

module _ (found : Findings) (index own linked_location : ℕ) (is_byte : Bool) (name : Name) (constant : ℕ) (words : AreWords found) where
  abbrev base : ℕ
  base = found.base index name

  abbrev value : ℕ
  value = symbol found name

  section_by : (is_zero : Bool) → (constant == 0) ≡ is_zero
      → stored_bytes found index own linked_location is_byte
      (if is_zero then target.Section name else target.SectionAdditive name constant)
      ≡ value_bytes is_byte (modulo (base + constant))
  section_by true e = ap (λ (v : ℕ). value_bytes is_byte v) (with_zero base constant (words.bases index name) e)
  section_by false e = refl

  pub section_row : stored_bytes found index own linked_location is_byte
      (if constant == 0 then target.Section name else target.SectionAdditive name constant)
      ≡ value_bytes is_byte (modulo (base + constant))
  section_row = section_by (constant == 0) refl

  displaced_section_by : (is_zero : Bool) → (constant == 0) ≡ is_zero
      → stored_bytes found index own linked_location is_byte
      (if is_zero then target.SectionDisplaced name else target.SectionAdditiveDisplaced name constant)
      ≡ value_bytes is_byte (less (modulo (base + constant)) (following linked_location))
  displaced_section_by true e =
      ap (λ (v : ℕ). value_bytes is_byte (less v (following linked_location))) (with_zero base constant (words.bases index name) e)
  displaced_section_by false e = refl

  pub displaced_section_row : stored_bytes found index own linked_location is_byte
      (if constant == 0 then target.SectionDisplaced name else target.SectionAdditiveDisplaced name constant)
      ≡ value_bytes is_byte (less (modulo (base + constant)) (following linked_location))
  displaced_section_row = displaced_section_by (constant == 0) refl

  global_by : (is_zero : Bool) → (constant == 0) ≡ is_zero
      → stored_bytes found index own linked_location is_byte
      (if is_zero then target.Global name else target.GlobalAdditive name constant)
      ≡ value_bytes is_byte (modulo (value + constant))
  global_by true e = ap (λ (v : ℕ). value_bytes is_byte v) (with_zero value constant (words.values name) e)
  global_by false e = refl

  pub global_row : stored_bytes found index own linked_location is_byte
      (if constant == 0 then target.Global name else target.GlobalAdditive name constant)
      ≡ value_bytes is_byte (modulo (value + constant))
  global_row = global_by (constant == 0) refl

  displaced_global_by : (is_zero : Bool) → (constant == 0) ≡ is_zero
      → stored_bytes found index own linked_location is_byte
      (if is_zero then target.GlobalDisplaced name else target.GlobalAdditiveDisplaced name constant)
      ≡ value_bytes is_byte (less (modulo (value + constant)) (following linked_location))
  displaced_global_by true e =
      ap (λ (v : ℕ). value_bytes is_byte (less v (following linked_location))) (with_zero value constant (words.values name) e)
  displaced_global_by false e = refl

  pub displaced_global_row : stored_bytes found index own linked_location is_byte
      (if constant == 0 then target.GlobalDisplaced name else target.GlobalAdditiveDisplaced name constant)
      ≡ value_bytes is_byte (less (modulo (value + constant)) (following linked_location))
  displaced_global_row = displaced_global_by (constant == 0) refl

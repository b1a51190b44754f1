-- Flags that are added to a part of an expression are added to the whole.
use Rattle.std.proofs.Common.{◌≡◌, ℕ, ◌-◌, ◌%◌, Bool, true, false, max, Option, Some, None, nat_lt, refl, sym, ap, ◌∙◌, arith, ◌&&◌, ◌||◌, if◌then◌else◌}
use Rattle.std.proofs.lemmas.Nat.Bits.{bit_at_or, same_from_bits}
use Rattle.std.specs.Int.{bit_at}
use Rattle.std.specs.Int.RustNames.{bit_or}
use Rattle.m11_scan.specs.ErrorFlags.{flag_Q}
use Rattle.m11_scan_expressions.specs.declared.kinds.Kind.{Kind}
use Rattle.m11_scan_expressions.specs.declared.kinds.Kind.TheVariants as kinds
use Rattle.m11_scan_expressions.specs.declared.operators.Operator.{Operator}
use Rattle.m11_scan_expressions.specs.declared.prefixes.Prefix.{Prefix}
use Rattle.m11_scan_expressions.specs.declared.prefixes.Prefix.TheVariants.{Plus, Minus, Complement, Register, InRadix, Bracket}
use Rattle.m11_scan_expressions.specs.Kinds.{is_register, kind_of, flag_R, refusal}
use Rattle.m11_scan_expressions.specs.Operations.{absence, combined, division_flags, limited, number_of, settled}
use Rattle.m11_scan_expressions.specs.Prefixes.{applied}
use Rattle.m11_scan_expressions.specs.Quantities.{Quantity, absolute, with_flags}

max_swap : (a b c : ℕ) → max (max a b) c ≡ max (max a c) b
max_swap a b c = omega arith

max_joins : (a b c : ℕ) → max (max a b) c ≡ max a (max b c)
max_joins a b c = omega arith

or_swap : (a b c : ℕ) → bit_or (bit_or a b) c ≡ bit_or (bit_or a c) b
or_swap a b c =
    same_from_bits (bit_or (bit_or a b) c) (bit_or (bit_or a c) b)
    (λ i. bit_at_or (bit_or a b) c i ∙ ap (λ n. max n (bit_at c i)) (bit_at_or a b i)
    ∙ max_swap (bit_at a i) (bit_at b i) (bit_at c i)
    ∙ sym (bit_at_or (bit_or a c) b i ∙ ap (λ n. max n (bit_at b i)) (bit_at_or a c i)))

or_joins : (a b c : ℕ) → bit_or (bit_or a b) c ≡ bit_or a (bit_or b c)
or_joins a b c =
    same_from_bits (bit_or (bit_or a b) c) (bit_or a (bit_or b c))
    (λ i. bit_at_or (bit_or a b) c i ∙ ap (λ n. max n (bit_at c i)) (bit_at_or a b i)
    ∙ max_joins (bit_at a i) (bit_at b i) (bit_at c i)
    ∙ sym (bit_at_or a (bit_or b c) i ∙ ap (λ n. max (bit_at a i) n) (bit_at_or b c i)))

module _ (further : ℕ) where
  either_limited : (is_over : Bool) (value : Quantity)
      → with_flags further (if is_over then absolute value.number (bit_or value.flags flag_R) else value)
      ≡ (if is_over then absolute value.number (bit_or (bit_or value.flags further) flag_R) else with_flags further value)
  either_limited true value = ap (λ (l : ℕ). absolute value.number l) (or_swap value.flags flag_R further)
  either_limited false value = refl

  limited_keeps : (value : Quantity) → with_flags further (limited value) ≡ limited (with_flags further value)
  limited_keeps value = either_limited (is_register value.kind && nat_lt 7 value.number) value

  settled_keeps : (kind : Option Kind) (number flags : ℕ) (has_register : Bool)
      → with_flags further (settled kind number flags has_register) ≡ settled kind number (bit_or flags further) has_register
  settled_keeps (Some kind) number flags has_register =
      limited_keeps (record { number = number; kind = kind; flags = flags })
  settled_keeps None number flags has_register =
      ap (λ (l : ℕ). absolute number l) (or_swap flags (refusal has_register) further)

  -- flags that are added to the right side of an operator are added to its result
  pub combined_keeps : (operator : Operator) (left right : Quantity)
      → with_flags further (combined operator left right) ≡ combined operator left (with_flags further right)
  combined_keeps operator left right =
      let kind = kind_of operator left.kind right.kind in
      let number = number_of operator left.number right.number in
      let has_register = is_register left.kind || is_register right.kind in
      let division = division_flags operator right.number in
      settled_keeps kind number (bit_or (bit_or left.flags right.flags) division) has_register
      ∙ ap (λ (l : ℕ). settled kind number l has_register)
      (or_swap (bit_or left.flags right.flags) division further
      ∙ ap (λ (l : ℕ). bit_or l division) (or_joins left.flags right.flags further))

  replaced_keeps : (value : Quantity) (number : ℕ)
      → with_flags further (absolute number (bit_or value.flags (absence value.kind)))
      ≡ absolute number (bit_or (bit_or value.flags further) (absence value.kind))
  replaced_keeps value number = ap (λ (l : ℕ). absolute number l) (or_swap value.flags (absence value.kind) further)

  -- flags that are added to a term are added to the result of its prefix
  pub applied_keeps : (prefix : Prefix) (is_closed : Bool) (value : Quantity)
      → with_flags further (applied prefix is_closed value) ≡ applied prefix is_closed (with_flags further value)
  applied_keeps Plus is_closed value = refl
  applied_keeps Minus is_closed value = replaced_keeps value ((65536 - value.number) % 65536)
  applied_keeps Complement is_closed value = replaced_keeps value (65535 - value.number)
  applied_keeps Register is_closed value =
      limited_keeps (record { number = value.number; kind = kinds.Register; flags = bit_or value.flags (absence value.kind) })
      ∙ ap (λ (l : ℕ). limited (record { number = value.number; kind = kinds.Register; flags = l }))
      (or_swap value.flags (absence value.kind) further)
  applied_keeps (InRadix radix) is_closed value = refl
  applied_keeps Bracket true value = refl
  applied_keeps Bracket false value =
      ap (λ (l : ℕ). record { number = value.number; kind = value.kind; flags = l }) (or_swap value.flags flag_Q further)

-- Words that are compared eight at a time.
use Rattle.std.proofs.Common.{◌≡◌, ◌∙◌, ℕ, ◌+◌, ◌*◌, true, eqb, List, get_or, inl, inr, ap, arith}
use Rattle.std.specs.Int.Bits.{bit_or, bit_xor, or_add_and, xor_add_and}
use Rattle.std.proofs.lemmas.Bool.{cases_lt, eqb-true}
use Rattle.std.proofs.lemmas.Nat.{and_le_l, and_le_r}
use Rattle.m11_cpu_machine.specs.Memory.{word_at}
use Rattle.m11_trace.specs.Changes.{AreAlike}

no_bits : (a b : ℕ) → bit_or a b ≡ 0 → (a ≡ 0) × (b ≡ 0)
no_bits a b e =
    let both = or_add_and a b in
    let left = and_le_l a b in
    let right = and_le_r a b in
    (omega (arith, e, both, left, right), omega (arith, e, both, left, right))

same_bits : (a b : ℕ) → bit_xor a b ≡ 0 → a ≡ b
same_bits a b e =
    let both = xor_add_and a b in
    let left = and_le_l a b in
    let right = and_le_r a b in
    omega (arith, e, both, left, right)

two_same : (a b c d : ℕ) → bit_or (bit_xor a b) (bit_xor c d) ≡ 0 → (a ≡ b) × (c ≡ d)
two_same a b c d e = let parts = no_bits (bit_xor a b) (bit_xor c d) e in (same_bits a b parts.0, same_bits c d parts.1)

four_same : (a b c d e f g h : ℕ) → bit_or (bit_or (bit_xor a b) (bit_xor c d)) (bit_or (bit_xor e f) (bit_xor g h)) ≡ 0
    → (a ≡ b) × (c ≡ d) × (e ≡ f) × (g ≡ h)
four_same a b c d e f g h is =
    let parts = no_bits (bit_or (bit_xor a b) (bit_xor c d)) (bit_or (bit_xor e f) (bit_xor g h)) is in
    let first = two_same a b c d parts.0 in
    let second = two_same e f g h parts.1 in (first.0, first.1, second.0, second.1)

-- if the next word is equal too, the words are equal up to the index after it
one_alike : (words memory : List ℕ) (from to next address : ℕ) → AreAlike words memory from to → next ≡ to + 1 → address ≡ 2 * to
    → get_or words to 0 ≡ word_at memory address → AreAlike words memory from next
one_alike words memory from to next address before one breakpoint same = λ k le lt. elim (cases_lt k to) [
  | inl below ↦ before k le below
  | inr above ↦
      let here : k ≡ to = omega (arith, above, lt, one) in
      let at : address ≡ 2 * k = omega (arith, here, breakpoint) in
      ap (λ (n : ℕ). get_or words n 0) here ∙ same ∙ ap (word_at memory) at
]

module _ (words memory : List ℕ) (index a b c d e f g h : ℕ) where
  abbrev pub first_differences : ℕ
  first_differences =
      bit_or (bit_or (bit_xor (get_or words index 0) a) (bit_xor (get_or words (index + 1) 0) b))
      (bit_or (bit_xor (get_or words (index + 2) 0) c) (bit_xor (get_or words (index + 3) 0) d))

  abbrev pub second_differences : ℕ
  second_differences =
      bit_or (bit_or (bit_xor (get_or words (index + 4) 0) e) (bit_xor (get_or words (index + 5) 0) f))
      (bit_or (bit_xor (get_or words (index + 6) 0) g) (bit_xor (get_or words (index + 7) 0) h))

  pub eight_alike : a ≡ word_at memory (2 * index) → b ≡ word_at memory (2 * index + 2) → c ≡ word_at memory (2 * index + 4)
      → d ≡ word_at memory (2 * index + 6) → e ≡ word_at memory (2 * index + 8) → f ≡ word_at memory (2 * index + 10)
      → g ≡ word_at memory (2 * index + 12) → h ≡ word_at memory (2 * index + 14)
      → eqb (bit_or first_differences second_differences) 0 ≡ true → AreAlike words memory index (index + 8)
  eight_alike a_is b_is c_is d_is e_is f_is g_is h_is test =
      let parts = no_bits first_differences second_differences (eqb-true _ _ test) in
      let first = four_same (get_or words index 0) a (get_or words (index + 1) 0) b (get_or words (index + 2) 0) c
      (get_or words (index + 3) 0) d parts.0 in
      let second = four_same (get_or words (index + 4) 0) e (get_or words (index + 5) 0) f (get_or words (index + 6) 0) g
      (get_or words (index + 7) 0) h parts.1 in
      let none : AreAlike words memory index index = λ k le lt. absurd (omega (arith, le, lt)) in
      let more : (to next address : ℕ) → AreAlike words memory index to → next ≡ to + 1 → address ≡ 2 * to
      → get_or words to 0 ≡ word_at memory address → AreAlike words memory index next = one_alike words memory index in
      let to_1 = more index (index + 1) (2 * index) none (omega arith) (omega arith) (first.0 ∙ a_is) in
      let to_2 = more (index + 1) (index + 2) (2 * index + 2) to_1 (omega arith) (omega arith) (first.1 ∙ b_is) in
      let to_3 = more (index + 2) (index + 3) (2 * index + 4) to_2 (omega arith) (omega arith) (first.2 ∙ c_is) in
      let to_4 = more (index + 3) (index + 4) (2 * index + 6) to_3 (omega arith) (omega arith) (first.3 ∙ d_is) in
      let to_5 = more (index + 4) (index + 5) (2 * index + 8) to_4 (omega arith) (omega arith) (second.0 ∙ e_is) in
      let to_6 = more (index + 5) (index + 6) (2 * index + 10) to_5 (omega arith) (omega arith) (second.1 ∙ f_is) in
      let to_7 = more (index + 6) (index + 7) (2 * index + 12) to_6 (omega arith) (omega arith) (second.2 ∙ g_is) in
      more (index + 7) (index + 8) (2 * index + 14) to_7 (omega arith) (omega arith) (second.3 ∙ h_is)

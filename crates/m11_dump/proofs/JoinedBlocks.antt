-- A block, and one that begins where it ends, are shown as one block.
use Rattle.std.proofs.Common.{◌≡◌, ◌∙◌, ℕ, zero, suc, ◌+◌, ◌-◌, ◌*◌, ◌%◌, ◌≤◌, Bool, true, false, List, [], ◌∷◌, ◌++◌, append_assoc, length, refl, sym, ap, take, arith}
use Rattle.std.specs.Prelude.{◌==◌, codes, if◌then◌else◌}
use Rattle.m11_base_disassembly.specs.Instructions.{size_of, statement_of}
use Rattle.m11_base_disassembly.specs.Statements.{Statement, DataByte}
use Rattle.m11_base_disassembly.specs.Symbols.{address_name}
use Rattle.m11_base_disassembly.specs.Texts.{statement_text}
use Rattle.m11_base_disassembly.specs.References.{no_references}
use Rattle.m11_base_disassembly.specs.declared.symbols.Symbol.{Symbol}
use Rattle.m11_dump.proofs.EachLine.{same_front, size_within}
use Rattle.m11_dump.specs.Octets.{location_after}
use Rattle.m11_dump.specs.Instructions.{following, front_size, front_statement, line_by, line_text, lines_from, over_from, unreferred, word_of}

-- ---- the first six bytes determine a line

following_four : (bytes : List ℕ) → following bytes ≡ following (take 4 bytes)
following_four [] = refl
following_four (a ∷ []) = refl
following_four (a ∷ b ∷ []) = refl
following_four (a ∷ b ∷ c ∷ []) = refl
following_four (a ∷ b ∷ c ∷ d ∷ bytes) = refl

following_two : (bytes : List ℕ) → length (following bytes) ≤ 2
following_two [] = omega arith
following_two (a ∷ []) = omega arith
following_two (a ∷ b ∷ []) = omega arith
following_two (a ∷ b ∷ c ∷ []) = omega arith
following_two (a ∷ b ∷ c ∷ d ∷ bytes) = omega arith

size_six : (location : ℕ) (bytes : List ℕ) → front_size no_references location bytes ≡ front_size no_references location (take 6 bytes)
size_six location [] = refl
size_six location (byte ∷ []) = refl
size_six location (low ∷ high ∷ bytes) =
    ap (λ (more : List ℕ). if location % 2 == 0 then 2 * size_of (word_of low high) more else 1) (following_four bytes)

statement_six : (location : ℕ) (bytes : List ℕ) → front_statement no_references location bytes ≡ front_statement no_references location (take 6 bytes)
statement_six location [] = refl
statement_six location (byte ∷ []) = refl
statement_six location (low ∷ high ∷ bytes) =
    ap (λ (more : List ℕ). if location % 2 == 0 then statement_of location (word_of low high) more else DataByte low)
    (following_four bytes)

most_six_by : (low high : ℕ) (bytes : List ℕ) (b : Bool) → (if b then 2 * size_of (word_of low high) (following bytes) else 1) ≤ 6
most_six_by low high bytes true =
    let within = size_within (word_of low high) (following bytes) in
    let few = following_two bytes in omega (arith, within.1, few)
most_six_by low high bytes false = omega arith

most_six : (location : ℕ) (bytes : List ℕ) → front_size no_references location bytes ≤ 6
most_six location [] = omega arith
most_six location (byte ∷ []) = omega arith
most_six location (low ∷ high ∷ bytes) = most_six_by low high bytes (location % 2 == 0)

line_six : (symbols : List Symbol) (location : ℕ) (bytes : List ℕ)
    → line_text symbols no_references location bytes ≡ line_text symbols no_references location (take 6 bytes)
line_six symbols location bytes =
    let name = address_name (codes "\t;") symbols location in
    let size = front_size no_references location bytes in
    let most = most_six location bytes in
    let shown : take size bytes ≡ take size (take 6 bytes) = sym (same_front size 6 [] bytes (omega (arith, most))) in
    ap (λ (l : List ℕ). line_by location l (statement_text symbols no_references (front_statement no_references location bytes) ++ name)) shown
    ∙ ap (λ (n : ℕ). line_by location (take n (take 6 bytes)) (statement_text symbols no_references (front_statement no_references location bytes) ++ name))
    (size_six location bytes)
    ∙ ap (λ (s : Statement). line_by location (take (front_size no_references location (take 6 bytes)) (take 6 bytes)) (statement_text symbols no_references s ++ name))
    (statement_six location bytes)

-- of the bytes beyond a block, the first five determine its lines
module _ (x y : List ℕ) (same : take 5 x ≡ take 5 y) where
  six_same : (byte : ℕ) (bytes : List ℕ) → take 6 (byte ∷ (bytes ++ x)) ≡ take 6 (byte ∷ (bytes ++ y))
  six_same byte bytes =
      let most : 6 ≤ length (byte ∷ bytes) + 5 = omega arith in
      sym (same_front 6 5 (byte ∷ bytes) x most)
      ∙ ap (λ (l : List ℕ). take 6 (byte ∷ (bytes ++ l))) same
      ∙ same_front 6 5 (byte ∷ bytes) y most

  size_same : (location byte : ℕ) (bytes : List ℕ)
      → front_size no_references location (byte ∷ (bytes ++ x)) ≡ front_size no_references location (byte ∷ (bytes ++ y))
  size_same location byte bytes = size_six location (byte ∷ (bytes ++ x)) ∙ ap (front_size no_references location) (six_same byte bytes)
      ∙ sym (size_six location (byte ∷ (bytes ++ y)))

  line_same : (symbols : List Symbol) (location byte : ℕ) (bytes : List ℕ)
      → line_text symbols no_references location (byte ∷ (bytes ++ x)) ≡ line_text symbols no_references location (byte ∷ (bytes ++ y))
  line_same symbols location byte bytes =
      line_six symbols location (byte ∷ (bytes ++ x)) ∙ ap (line_text symbols no_references location) (six_same byte bytes)
      ∙ sym (line_six symbols location (byte ∷ (bytes ++ y)))

  lines_same : (symbols : List Symbol) (address index shown : ℕ) (bytes : List ℕ)
      → lines_from symbols unreferred address index shown bytes x ≡ lines_from symbols unreferred address index shown bytes y
  lines_same symbols address index shown [] = refl
  lines_same symbols address index zero (byte ∷ bytes) =
      let location = location_after address index in
      ap (λ (t : List ℕ). t ++ lines_from symbols unreferred address (index + 1) (front_size no_references location (byte ∷ (bytes ++ x)) - 1) bytes x)
      (line_same symbols location byte bytes)
      ∙ ap (λ (n : ℕ). line_text symbols no_references location (byte ∷ (bytes ++ y)) ++ lines_from symbols unreferred address (index + 1) (n - 1) bytes x)
      (size_same location byte bytes)
      ∙ ap (λ (t : List ℕ). line_text symbols no_references location (byte ∷ (bytes ++ y)) ++ t)
      (lines_same symbols address (index + 1) (front_size no_references location (byte ∷ (bytes ++ y)) - 1) bytes)
  lines_same symbols address index (suc shown) (byte ∷ bytes) = lines_same symbols address (index + 1) shown bytes

  over_same : (address index shown : ℕ) (bytes : List ℕ) → over_from unreferred address index shown bytes x ≡ over_from unreferred address index shown bytes y
  over_same address index shown [] = refl
  over_same address index zero (byte ∷ bytes) =
      let location = location_after address index in
      ap (λ (n : ℕ). over_from unreferred address (index + 1) (n - 1) bytes x) (size_same location byte bytes)
      ∙ over_same address (index + 1) (front_size no_references location (byte ∷ (bytes ++ y)) - 1) bytes
  over_same address index (suc shown) (byte ∷ bytes) = over_same address (index + 1) shown bytes

-- ---- the lines of the next block, with indexes counted from its own first byte

location_further : (address base index : ℕ) → location_after address (base + index) ≡ location_after (location_after address base) index
location_further address base index = omega arith

lines_further : (symbols : List Symbol) (address base index shown : ℕ) (bytes beyond : List ℕ)
    → lines_from symbols unreferred address (base + index) shown bytes beyond ≡ lines_from symbols unreferred (location_after address base) index shown bytes beyond
lines_further symbols address base index shown [] beyond = refl
lines_further symbols address base index zero (byte ∷ bytes) beyond =
    let left : List ℕ = byte ∷ (bytes ++ beyond) in
    let there = location_after (location_after address base) index in
    let e : base + index + 1 ≡ base + (index + 1) = omega arith in
    ap (λ (l : ℕ). line_text symbols no_references l left ++ lines_from symbols unreferred address (base + index + 1) (front_size no_references l left - 1) bytes beyond)
    (location_further address base index)
    ∙ ap (λ (t : List ℕ). line_text symbols no_references there left ++ t)
    (ap (λ (i : ℕ). lines_from symbols unreferred address i (front_size no_references there left - 1) bytes beyond) e
    ∙ lines_further symbols address base (index + 1) (front_size no_references there left - 1) bytes beyond)
lines_further symbols address base index (suc shown) (byte ∷ bytes) beyond =
    let e : base + index + 1 ≡ base + (index + 1) = omega arith in
    ap (λ (i : ℕ). lines_from symbols unreferred address i shown bytes beyond) e ∙ lines_further symbols address base (index + 1) shown bytes beyond

-- ---- both blocks together

split : (symbols : List Symbol) (address index shown : ℕ) (bytes next beyond : List ℕ) → lines_from symbols unreferred address index shown (bytes ++ next) beyond
    ≡ lines_from symbols unreferred address index shown bytes (next ++ beyond)
    ++ lines_from symbols unreferred address (index + length bytes) (over_from unreferred address index shown bytes (next ++ beyond)) next beyond
split symbols address index shown [] next beyond =
    let e : index ≡ index + 0 = omega arith in ap (λ (i : ℕ). lines_from symbols unreferred address i shown next beyond) e
split symbols address index zero (byte ∷ bytes) next beyond =
    let location = location_after address index in
    let left : List ℕ = byte ∷ (bytes ++ (next ++ beyond)) in
    let size = front_size no_references location left in
    let e : index + 1 + length bytes ≡ index + suc (length bytes) = omega arith in
    let over = over_from unreferred address (index + 1) (size - 1) bytes (next ++ beyond) in
    let front = lines_from symbols unreferred address (index + 1) (size - 1) bytes (next ++ beyond) in
    ap (λ (l : List ℕ). line_text symbols no_references location (byte ∷ l)
    ++ lines_from symbols unreferred address (index + 1) (front_size no_references location (byte ∷ l) - 1) (bytes ++ next) beyond)
    (append_assoc bytes next beyond)
    ∙ ap (λ (t : List ℕ). line_text symbols no_references location left ++ t)
    (split symbols address (index + 1) (size - 1) bytes next beyond
    ∙ ap (λ (i : ℕ). front ++ lines_from symbols unreferred address i over next beyond) e)
    ∙ sym (append_assoc (line_text symbols no_references location left) front (lines_from symbols unreferred address (index + suc (length bytes)) over next beyond))
split symbols address index (suc shown) (byte ∷ bytes) next beyond =
    let e : index + 1 + length bytes ≡ index + suc (length bytes) = omega arith in
    split symbols address (index + 1) shown bytes next beyond
    ∙ ap (λ (i : ℕ). lines_from symbols unreferred address (index + 1) shown bytes (next ++ beyond)
    ++ lines_from symbols unreferred address i (over_from unreferred address (index + 1) shown bytes (next ++ beyond)) next beyond) e

pub shown_as_one : (symbols : List Symbol) (address shown : ℕ) (bytes next beyond : List ℕ) → take 5 (next ++ beyond) ≡ take 5 next
    → lines_from symbols unreferred address 0 shown (bytes ++ next) beyond ≡ lines_from symbols unreferred address 0 shown bytes (take 5 next)
    ++ lines_from symbols unreferred (location_after address (length bytes)) 0 (over_from unreferred address 0 shown bytes (take 5 next)) next beyond
shown_as_one symbols address shown bytes next beyond five =
    let same : take 5 (next ++ beyond) ≡ take 5 (take 5 next) =
    five ∙ sym (same_front 5 5 [] next (omega arith)) in
    let e : 0 + length bytes ≡ length bytes + 0 = omega arith in
    let over = over_from unreferred address 0 shown bytes (take 5 next) in
    split symbols address 0 shown bytes next beyond
    ∙ ap (λ (t : List ℕ). t
    ++ lines_from symbols unreferred address (0 + length bytes) (over_from unreferred address 0 shown bytes (next ++ beyond)) next beyond)
    (lines_same (next ++ beyond) (take 5 next) same symbols address 0 shown bytes)
    ∙ ap (λ (n : ℕ). lines_from symbols unreferred address 0 shown bytes (take 5 next) ++ lines_from symbols unreferred address (0 + length bytes) n next beyond)
    (over_same (next ++ beyond) (take 5 next) same address 0 shown bytes)
    ∙ ap (λ (i : ℕ). lines_from symbols unreferred address 0 shown bytes (take 5 next) ++ lines_from symbols unreferred address i over next beyond) e
    ∙ ap (λ (t : List ℕ). lines_from symbols unreferred address 0 shown bytes (take 5 next) ++ t)
    (lines_further symbols address (length bytes) 0 over next beyond)

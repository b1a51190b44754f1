-- Each byte is shown in one line, in order.
use Rattle.std.proofs.Common.{◌≡◌, ◌∙◌, append-nil, length-append, ℕ, zero, suc, ◌+◌, ◌-◌, ◌*◌, ◌%◌, ◌≤◌, ◌<◌, Bool, true, false, List, [], ◌∷◌, ◌++◌, drop, length, Option, Some, None, take, refl, sym, ap, subst, arith}
use Rattle.std.specs.Prelude.{◌==◌, codes, nat_le, if◌then◌else◌}
use Rattle.std.proofs.lemmas.Bool.{leb-true}
use Rattle.std.proofs.lemmas.List.{length-take-le, take-append-drop}
use Rattle.m11_base.specs.Instructions.{instruction_of}
use Rattle.m11_base.specs.declared.instruction_list.Row.{Row}
use Rattle.m11_base_disassembly.specs.Instructions.{row_named, size_by, size_of, words_after}
use Rattle.m11_base_disassembly.specs.References.{is_data, no_references, referred_text, stands_in}
use Rattle.m11_base_disassembly.specs.Texts.{statement_text}
use Rattle.m11_base_disassembly.specs.Statements.{Statement, DataWord}
use Rattle.m11_base_disassembly.specs.Symbols.{address_name}
use Rattle.m11_base_disassembly.specs.declared.references.Reference.{Reference}
use Rattle.m11_base_disassembly.specs.declared.references.References.{References}
use Rattle.m11_base_disassembly.specs.declared.symbols.Symbol.{Symbol}
use Rattle.m11_dump.specs.Octets.{location_after}
use Rattle.m11_dump.specs.Instructions.{AreLines, following, front_size, front_source, front_statement, line_by, line_text, lines, lines_from, over_from, word_of, word_size}

-- ---- the source of a line without a name

pub statement_alone : (location : ℕ) (bytes : List ℕ) → front_source [] no_references location bytes ≡ statement_text [] no_references (front_statement no_references location bytes)
statement_alone location bytes = append-nil (statement_text [] no_references (front_statement no_references location bytes))

-- ---- words with a reference of their own

pub word_referring : (symbols : List Symbol) (references : References) (reference : Reference) (location low high : ℕ) (bytes : List ℕ)
    → location % 2 ≡ 0 → references.own ≡ Some reference → stands_in false reference ≡ true
    → line_text symbols references location (low ∷ high ∷ bytes) ≡ line_by location (low ∷ high ∷ [])
    ((codes ".WORD  " ++ referred_text reference.name reference.constant) ++ address_name (codes "\t;") symbols location)
word_referring symbols references reference location low high bytes even own stands =
    let name = address_name (codes "\t;") symbols location in
    let all : List ℕ = low ∷ high ∷ bytes in
    let own_is : is_data references.own ≡ true = rw (own, stands) refl in
    let size : front_size references location all ≡ 2 = rw (even, own_is) refl in
    let statement : front_statement references location all ≡ DataWord (word_of low high) = rw (even, own_is) refl in
    let text : statement_text symbols references (DataWord (word_of low high))
    ≡ codes ".WORD  " ++ referred_text reference.name reference.constant = rw (own, stands) refl in
    ap (λ (n : ℕ). line_by location (take n all) (front_source symbols references location all)) size
    ∙ ap (λ (s : Statement). line_by location (low ∷ high ∷ []) (statement_text symbols references s ++ name)) statement
    ∙ ap (λ (t : List ℕ). line_by location (low ∷ high ∷ []) (t ++ name)) text

pub statement_otherwise : (references : References) (location : ℕ) (bytes : List ℕ) → is_data references.own ≡ false
    → (front_statement references location bytes ≡ front_statement no_references location bytes)
    × (front_size references location bytes ≡ front_size no_references location bytes)
statement_otherwise references location [] other = (refl, refl)
statement_otherwise references location (byte ∷ []) other = (refl, refl)
statement_otherwise references location (low ∷ high ∷ bytes) other = (rw other refl, rw other refl)

-- ---- how many bytes a line shows

size_within_by : (word : ℕ) (more : List ℕ) (b : Bool) (row : Option Row) → nat_le (words_after (instruction_of word)) (length more) ≡ b
    → (0 < size_by (if b then row else None) word) × (size_by (if b then row else None) word ≤ 1 + length more)
size_within_by word more true None e = (omega arith, omega arith)
size_within_by word more true (Some row) e =
    let most = leb-true (words_after (instruction_of word)) (length more) e in (omega arith, omega (arith, most))
size_within_by word more false row e = (omega arith, omega arith)

pub size_within : (word : ℕ) (more : List ℕ) → (0 < size_of word more) × (size_of word more ≤ 1 + length more)
size_within word more =
    size_within_by word more (nat_le (words_after (instruction_of word)) (length more)) (row_named word) refl

word_within_by : (word : ℕ) (more : List ℕ) (b : Bool)
    → (0 < (if b then 1 else size_of word more)) × ((if b then 1 else size_of word more) ≤ 1 + length more)
word_within_by word more true = (omega arith, omega arith)
word_within_by word more false = size_within word more

word_within : (references : References) (word : ℕ) (more : List ℕ)
    → (0 < word_size references word more) × (word_size references word more ≤ 1 + length more)
word_within references word more = word_within_by word more (is_data references.own)

following_within : (bytes : List ℕ) → 2 * length (following bytes) ≤ length bytes
following_within [] = omega arith
following_within (a ∷ []) = omega arith
following_within (a ∷ b ∷ []) = omega arith
following_within (a ∷ b ∷ c ∷ []) = omega arith
following_within (a ∷ b ∷ c ∷ d ∷ bytes) = omega arith

front_within_by : (references : References) (low high : ℕ) (bytes : List ℕ) (b : Bool)
    → (0 < (if b then 2 * word_size references (word_of low high) (following bytes) else 1))
    × ((if b then 2 * word_size references (word_of low high) (following bytes) else 1) ≤ length (low ∷ high ∷ bytes))
front_within_by references low high bytes true =
    let within = word_within references (word_of low high) (following bytes) in
    let some = following_within bytes in (omega (arith, within.0), omega (arith, within.1, some))
front_within_by references low high bytes false = (omega arith, omega arith)

front_within : (references : References) (location byte : ℕ) (bytes : List ℕ)
    → (0 < front_size references location (byte ∷ bytes)) × (front_size references location (byte ∷ bytes) ≤ length (byte ∷ bytes))
front_within references location byte [] = (omega arith, omega arith)
front_within references location low (high ∷ bytes) = front_within_by references low high bytes (location % 2 == 0)

-- ---- one line after another

emptied : (count : ℕ) (bytes : List ℕ) → drop count (take count bytes) ≡ []
emptied zero bytes = refl
emptied (suc count) [] = refl
emptied (suc count) (byte ∷ bytes) = emptied count bytes

pub same_front : (count over : ℕ) (bytes beyond : List ℕ) → count ≤ length bytes + over
    → take count (bytes ++ take over beyond) ≡ take count (bytes ++ beyond)
same_front zero over bytes beyond most = refl
same_front (suc count) over (byte ∷ bytes) beyond most =
    ap (λ (l : List ℕ). byte ∷ l) (same_front count over bytes beyond (omega (arith, most)))
same_front (suc count) zero [] beyond most = absurd (omega (arith, most))
same_front (suc count) (suc over) [] [] most = refl
same_front (suc count) (suc over) [] (byte ∷ beyond) most =
    ap (λ (l : List ℕ). byte ∷ l) (same_front count over [] beyond (omega (arith, most)))

module _ (references : ℕ → References) (address : ℕ) (beyond : List ℕ) where
  over_least : (index shown : ℕ) (bytes : List ℕ) → shown ≤ length bytes + over_from references address index shown bytes beyond
  over_least index shown [] = omega arith
  over_least index zero (byte ∷ bytes) = omega arith
  over_least index (suc shown) (byte ∷ bytes) = omega (arith, over_least (index + 1) shown bytes)

  pub over_most : (index shown : ℕ) (bytes : List ℕ) → shown ≤ length bytes + length beyond
      → over_from references address index shown bytes beyond ≤ length beyond
  over_most index shown [] most = omega (arith, most)
  over_most index zero (byte ∷ bytes) most =
      let within = front_within (references index) (location_after address index) byte (bytes ++ beyond) in
      over_most (index + 1) (front_size (references index) (location_after address index) (byte ∷ (bytes ++ beyond)) - 1) bytes
      (omega (arith, within.0, within.1, length-append bytes beyond))
  over_most index (suc shown) (byte ∷ bytes) most = over_most (index + 1) shown bytes (omega (arith, most))

  gathered : (symbols : List Symbol) (index shown at : ℕ) (bytes : List ℕ) → at ≡ index + shown → (all : List (List ℕ))
      × AreLines address at all (drop shown (bytes ++ take (over_from references address index shown bytes beyond) beyond))
      (lines_from symbols references address index shown bytes beyond)
  gathered symbols index shown at [] is = ([], (emptied shown beyond, refl))
  gathered symbols index (suc shown) at (byte ∷ bytes) is = gathered symbols (index + 1) shown at bytes (omega (arith, is))
  gathered symbols index zero at (byte ∷ bytes) is =
      let location = location_after address index in
      let following : List ℕ = bytes ++ beyond in
      let size = front_size (references index) location (byte ∷ following) in
      let within = front_within (references index) location byte following in
      let left = size - 1 in
      let size_is : size ≡ suc left = omega (arith, within.0) in
      let few : left ≤ length following = omega (arith, within.0, within.1) in
      let source = front_source symbols (references index) location (byte ∷ following) in
      let more = lines_from symbols references address (index + 1) left bytes beyond in
      let over = over_from references address (index + 1) left bytes beyond in
      let mine : List ℕ = bytes ++ take over beyond in
      let long : length (byte ∷ take left following) ≡ 1 + left = omega (arith, length-take-le left following few) in
      let rest = gathered symbols (index + 1) left (index + length (byte ∷ take left following)) bytes (omega (arith, long)) in
      let front : take left mine ≡ take left following = same_front left over bytes beyond (over_least (index + 1) left bytes) in
      let P : ℕ → Type 0 = λ i. (all : List (List ℕ))
      × AreLines address i all (byte ∷ mine) (line_text symbols (references index) location (byte ∷ following) ++ more) in
      let here : index ≡ at = omega (arith, is) in
      subst P here (
        (byte ∷ take left following) ∷ rest.0,
        (
          source,
          drop left mine,
          more,
          omega (arith, long),
          ap (λ (l : List ℕ). byte ∷ l)
              (sym (take-append-drop left mine) ∙ ap (λ (l : List ℕ). l ++ drop left mine) front),
          ap (λ (n : ℕ). line_by location (take n (byte ∷ following)) source ++ more) size_is,
          rest.1,
        ),
      )

pub each_joined_line : (symbols : List Symbol) (references : ℕ → References) (address shown : ℕ) (bytes beyond : List ℕ) → (all : List (List ℕ))
    × AreLines address shown all (drop shown (bytes ++ take (over_from references address 0 shown bytes beyond) beyond))
    (lines_from symbols references address 0 shown bytes beyond)
each_joined_line symbols references address shown bytes beyond = gathered references address beyond symbols 0 shown shown bytes (omega arith)

none_taken : (count : ℕ) → take {A = ℕ} count [] ≡ []
none_taken zero = refl
none_taken (suc count) = refl

pub each_line : (symbols : List Symbol) (references : ℕ → References) (address : ℕ) (bytes : List ℕ)
    → (all : List (List ℕ)) × AreLines address 0 all bytes (lines symbols references address bytes)
each_line symbols references address bytes =
    let P : List ℕ → Type 0 = λ l. (all : List (List ℕ)) × AreLines address 0 all l (lines symbols references address bytes) in
    subst P (ap (λ (l : List ℕ). bytes ++ l) (none_taken (over_from references address 0 0 bytes [])) ∙ append-nil bytes)
    (each_joined_line symbols references address 0 bytes [])

pub joined_within : (references : ℕ → References) (address shown : ℕ) (bytes beyond : List ℕ) → shown ≤ length bytes
    → over_from references address 0 shown bytes beyond ≤ length beyond
joined_within references address shown bytes beyond most = over_most references address beyond 0 shown bytes (omega (arith, most))

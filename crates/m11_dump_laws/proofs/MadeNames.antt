-- The names that are made for addresses: a source can define them, and those of two addresses differ.
use Rattle.std.proofs.Common.{◌≡◌, ◌∙◌, ℕ, ◌+◌, ◌*◌, ◌/◌, ◌%◌, ◌<◌, ◌≤◌, Bool, true, false, ◌&&◌, ◌⊎◌, [], ◌∷◌, ◌++◌, Option, Some, None, option_map, refl, ap, ap₂, arith, inl, inr}
use Rattle.std.specs.Prelude.{◌==◌, not, nat_lt, if◌then◌else◌, slice_index}
use Rattle.std.specs.List.{AllByRecursion, list_any}
use Rattle.std.specs.Str.{bytes_eq}
use Rattle.std.proofs.lemmas.Bool.{and_from, cases_lt, le-ltb, lt-ltb, ne_eqb}
use Rattle.m11_base.specs.Devices.{Bytes}
use Rattle.m11_base.specs.Octal.{octal_digit}
use Rattle.m11_base.specs.Rad50.{IsName, Name, character_of, characters_of, code_of, name_of, name_of_words, name_text, word_limit, word_of_codes}
use Rattle.m11_base.proofs.Characters.{character_again}
use Rattle.m11_base_disassembly.specs.Names.{bare_name}
use Rattle.m11_dump_source.specs.Labels.{are_spaces, is_definable, is_padded, made_characters, reserved}

-- ---- a name that has six characters

both_words : (one other : Option ℕ) (name : Name) → name_of_words one other ≡ Some name → (one ≡ Some name.0) × (other ≡ Some name.1)
both_words (Some first) (Some second) name is =
    (ap (λ (o : Option Name). option_map (λ (n : Name). n.0) o) is, ap (λ (o : Option Name). option_map (λ (n : Name). n.1) o) is)
both_words (Some first) None name is = absurd cc
both_words None second name is = absurd cc

number : Option ℕ → ℕ
number (Some n) = n
number None = 0

three : (a b c x y z : ℕ) → a ≡ x → b ≡ y → c ≡ z → a ∷ b ∷ c ∷ [] ≡ x ∷ y ∷ z ∷ []
three a b c x y z p q r = λ i. p i ∷ q i ∷ r i ∷ []

-- a word that packs three characters has them
abbrev Has : ℕ → ℕ → ℕ → ℕ → Type 0
Has word a b c = (word < word_limit) × (characters_of word ≡ a ∷ b ∷ c ∷ [])

word_by : (a b c : ℕ) (x y z : Option ℕ) (word : ℕ) → code_of a ≡ x → code_of b ≡ y → code_of c ≡ z
    → word_of_codes x y z ≡ Some word → Has word a b c
unfolding number
word_by a b c (Some x) (Some y) (Some z) word first second third is =
    let e : x * 1600 + y * 40 + z ≡ word = ap number is in
    let one = character_again a x first in
    let two = character_again b y second in
    let last = character_again c z third in
    let high : word / 1600 ≡ x = omega (arith, e, one.0, two.0, last.0) in
    let middle : word / 40 % 40 ≡ y = omega (arith, e, one.0, two.0, last.0) in
    let low : word % 40 ≡ z = omega (arith, e, one.0, two.0, last.0) in (
      omega (arith, e, one.0, two.0, last.0),
      three (character_of (word / 1600)) (character_of (word / 40 % 40)) (character_of (word % 40)) a b c (ap character_of high ∙ one.1)
          (ap character_of middle ∙ two.1) (ap character_of low ∙ last.1),
    )
word_by a b c (Some x) (Some y) None word first second third is = absurd cc
word_by a b c (Some x) None z word first second third is = absurd cc
word_by a b c None y z word first second third is = absurd cc

joined : (name : Name) (a b c d e g : ℕ) → Has name.0 a b c → Has name.1 d e g
    → IsName name × (name_text name ≡ a ∷ b ∷ c ∷ d ∷ e ∷ g ∷ [])
joined name a b c d e g one other = ((one.0, other.0), ap₂ (λ (x y : Bytes). x ++ y) one.1 other.1)

named_again : (a b c d e g : ℕ) (name : Name) → name_of (a ∷ b ∷ c ∷ d ∷ e ∷ g ∷ []) ≡ Some name
    → IsName name × (name_text name ≡ a ∷ b ∷ c ∷ d ∷ e ∷ g ∷ [])
named_again a b c d e g name is =
    let words =
    both_words (word_of_codes (code_of a) (code_of b) (code_of c)) (word_of_codes (code_of d) (code_of e) (code_of g)) name is in
    joined name a b c d e g (word_by a b c (code_of a) (code_of b) (code_of c) name.0 refl refl refl words.0)
    (word_by d e g (code_of d) (code_of e) (code_of g) name.1 refl refl refl words.1)

-- the name that is made for an address has the characters that are made for it
pub made_name : (address : ℕ) (name : Name) → name_of (made_characters address) ≡ Some name
    → IsName name × (name_text name ≡ made_characters address)
made_name address name is =
    named_again (if nat_lt address 0o100000 then 76 else 85) (octal_digit address 4) (octal_digit address 3) (octal_digit address 2)
    (octal_digit address 1) (octal_digit address 0) name is

-- ---- a source can define it

no_blank : (digit : ℕ) → 48 ≤ digit → (digit == 32) ≡ false
no_blank digit least = ne_eqb digit 32 (λ is. omega (arith, is, least))

-- these are digits, or characters after the digits
abbrev AreHigh : Bytes → Type 0
AreHigh characters = AllByRecursion (λ character. 48 ≤ character) characters

high_padded : (characters : Bytes) → AreHigh characters → is_padded characters ≡ true
high_padded [] high = refl
high_padded (character ∷ rest) high =
    let percent : not (character == 37) ≡ true = ap not (ne_eqb character 37 (λ is. omega (arith, is, high.0))) in
    ap (λ (b : Bool). if b then are_spaces rest else not (character == 37) && is_padded rest) (no_blank character high.0)
    ∙ and_from (not (character == 37)) (is_padded rest) percent (high_padded rest high.1)

high_bare : (characters : Bytes) → AreHigh characters → bare_name characters ≡ characters
high_bare [] high = refl
high_bare (character ∷ rest) high =
    ap (λ (b : Bool). if b then [] else character ∷ bare_name rest) (no_blank character high.0)
    ∙ ap (λ (l : Bytes). character ∷ l) (high_bare rest high.1)

module _ (address : ℕ) where
  abbrev digits : Bytes
  digits = octal_digit address 4 ∷ octal_digit address 3 ∷ octal_digit address 2 ∷ octal_digit address 1 ∷ octal_digit address 0 ∷ []

  least : (index : ℕ) → 48 ≤ octal_digit address index
  least index = omega arith

  digits_high : AreHigh digits
  digits_high = (least 4, (least 3, (least 2, (least 1, (least 0, tt)))))

  letter_definable : (b : Bool) → is_definable ((if b then 76 else 85) ∷ digits) ≡ true
  letter_definable true =
      and_from (is_padded digits) (not (list_any (bytes_eq (76 ∷ bare_name digits)) reserved)) (high_padded digits digits_high)
      (ap (λ (l : Bytes). not (list_any (bytes_eq (76 ∷ l)) reserved)) (high_bare digits digits_high))
  letter_definable false =
      and_from (is_padded digits) (not (list_any (bytes_eq (85 ∷ bare_name digits)) reserved)) (high_padded digits digits_high)
      (ap (λ (l : Bytes). not (list_any (bytes_eq (85 ∷ l)) reserved)) (high_bare digits digits_high))

  pub made_definable : is_definable (made_characters address) ≡ true
  made_definable = letter_definable (nat_lt address 0o100000)

-- ---- those of two addresses differ

low_part : (address : ℕ) → address % 32768 ≡ address / 4096 % 8 * 4096 + address / 512 % 8 * 512 + address / 64 % 8 * 64
    + address / 8 % 8 * 8 + address % 8
low_part address = omega arith

abbrev letter_by : Bool → ℕ
letter_by b = if b then 76 else 85

-- the letter of the name for an address
abbrev letter : ℕ → ℕ
letter address = letter_by (nat_lt address 0o100000)

high_part : (address : ℕ) → address < 65536
    → (letter address ≡ 76) × (address / 32768 ≡ 0) ⊎ (letter address ≡ 85) × (address / 32768 ≡ 1)
high_part address below = elim (cases_lt address 32768) [
  | inl low ↦ inl (ap letter_by (lt-ltb address 32768 low), omega (arith, low))
  | inr high ↦ inr (ap letter_by (le-ltb address 32768 high), omega (arith, high, below))
]

module _ (one other : ℕ) (one_below : one < 65536) (other_below : other < 65536)
    (same : made_characters one ≡ made_characters other) where
  same_digit : (index : ℕ) → slice_index (made_characters one) index ≡ slice_index (made_characters other) index
  same_digit index = ap (λ (l : Bytes). slice_index l index) same

  same_low : one % 32768 ≡ other % 32768
  same_low =
      let p : 48 + one / 4096 % 8 ≡ 48 + other / 4096 % 8 = same_digit 1 in
      let q : 48 + one / 512 % 8 ≡ 48 + other / 512 % 8 = same_digit 2 in
      let r : 48 + one / 64 % 8 ≡ 48 + other / 64 % 8 = same_digit 3 in
      let s : 48 + one / 8 % 8 ≡ 48 + other / 8 % 8 = same_digit 4 in
      let t : 48 + one % 8 ≡ 48 + other % 8 = last in
      let e = low_part one in let f = low_part other in omega (arith, p, q, r, s, t, e, f)
    where
      last : 48 + one % 8 ≡ 48 + other % 8
      last = let t = same_digit 5 in omega (arith, t)

  same_high : one / 32768 ≡ other / 32768
  same_high =
      let e : letter one ≡ letter other = same_digit 0 in
      let p = high_part one one_below in
      let q = high_part other other_below in omega (arith, e, p, q)

  pub same_address : one ≡ other
  same_address = let e = same_low in let f = same_high in omega (arith, e, f)

-- Apart from the unused code, a code of RADIX-50 and its character determine each other, and so do a word and its three characters.
use Rattle.std.proofs.Common.{◌≡◌, ◌≢◌, ℕ, zero, suc, ◌+◌, ◌-◌, ◌*◌, ◌/◌, ◌%◌, ◌<◌, ◌≤◌, Bool, true, false, cond, eqb, ltb, List, [], ◌∷◌, length, Option, Some, None, refl, sym, ap, subst, arith, inl, inr}
use Rattle.std.specs.Prelude.{◌&&◌, ◌||◌, position, slice_index}
use Rattle.std.proofs.lemmas.Bool.{cases_lt, eqb-true, and_parts, lt-ltb}
use Rattle.std.proofs.lemmas.Bool.Decides.{nat_tests}
use Rattle.std.proofs.lemmas.List.Quantifiers.{position-Some}
use Rattle.m11_base.specs.Rad50.{alphabet, code_of, character_of, packed_at, unpacked, characters_of, HasNoPercent, word_limit}

-- ---- a test that holds of each number below a bound

all_below : (ℕ → Bool) → ℕ → Bool
all_below p zero = true
all_below p (suc n) = p n && all_below p n

all_below_at : (p : ℕ → Bool) (n k : ℕ) → all_below p n ≡ true → k < n → p k ≡ true
unfolding all_below
all_below_at p zero k e lt = absurd (omega arith)
all_below_at p (suc n) k e lt =
    let parts = and_parts (p n) (all_below p n) e in
    elim (cases_lt k n) [
      | inl below ↦ all_below_at p n k parts.1 below
      | inr above ↦ let here : k ≡ n = omega arith in rw here parts.0
    ]

-- ---- codes

is_code : Option ℕ → ℕ → Bool
is_code None k = false
is_code (Some x) k = eqb x k

gives_back : ℕ → Bool
gives_back k = eqb (character_of k) 37 || is_code (code_of (character_of k)) k

from_test : (c k : ℕ) (o : Option ℕ) → (eqb c 37 || is_code o k) ≡ true → c ≢ 37 → o ≡ Some k
unfolding is_code
from_test c k None e ne = grind (arith, nat_tests)
from_test c k (Some x) e ne = grind (arith, nat_tests)

pub code_again : (k : ℕ) → k < 40 → character_of k ≢ 37 → code_of (character_of k) ≡ Some k
unfolding all_below gives_back is_code alphabet code_of character_of
code_again k lt ne =
    from_test (character_of k) k (code_of (character_of k)) (all_below_at gives_back 40 k refl lt) ne

some_from_cond : (b : Bool) (o : Option ℕ) (k : ℕ) → cond b None o ≡ Some k → o ≡ Some k
some_from_cond true o k e = absurd cc
some_from_cond false o k e = e

pub character_again : (c k : ℕ) → code_of c ≡ Some k → (k < 40) × (character_of k ≡ c)
unfolding alphabet code_of character_of
character_again c k e =
    let found =
    position-Some (λ x. eqb x c) alphabet k 0 (some_from_cond (eqb c 37) (position (λ x. eqb x c) alphabet) k e) in
    (found.0, eqb-true _ _ found.1)

has_code : (k : ℕ) (o : Option ℕ) → is_code o k ≡ true → o ≡ Some k
unfolding is_code
has_code k None e = absurd cc
has_code k (Some x) e = ap Some (eqb-true x k e)

pub blank_coded : code_of 32 ≡ Some 0
unfolding alphabet code_of
blank_coded = refl

pub dollar_coded : code_of 36 ≡ Some 27
unfolding alphabet code_of
dollar_coded = refl

pub point_coded : code_of 46 ≡ Some 28
unfolding alphabet code_of
point_coded = refl

-- the codes of the letters are consecutive, and so are those of the digits
letter_test : ℕ → Bool
letter_test k = is_code (code_of (65 + k)) (k + 1)

pub letter_coded : (c : ℕ) → 65 ≤ c → c ≤ 90 → code_of c ≡ Some (c - 65 + 1)
unfolding all_below letter_test is_code alphabet code_of
letter_coded c low high =
    let k : ℕ = c - 65 in
    let here : code_of (65 + k) ≡ Some (k + 1) =
    has_code (k + 1) (code_of (65 + k)) (all_below_at letter_test 26 k refl (omega arith)) in
    let same : 65 + k ≡ c = omega arith in
    subst (λ (x : ℕ). code_of x ≡ Some (k + 1)) same here

digit_test : ℕ → Bool
digit_test k = is_code (code_of (48 + k)) (k + 30)

pub digit_coded : (c : ℕ) → 48 ≤ c → c ≤ 57 → code_of c ≡ Some (c - 48 + 30)
unfolding all_below digit_test is_code alphabet code_of
digit_coded c low high =
    let k : ℕ = c - 48 in
    let here : code_of (48 + k) ≡ Some (k + 30) =
    has_code (k + 30) (code_of (48 + k)) (all_below_at digit_test 10 k refl (omega arith)) in
    let same : 48 + k ≡ c = omega arith in
    subst (λ (x : ℕ). code_of x ≡ Some (k + 30)) same here

-- no other character has a code: each character of the alphabet but `%` is a blank, `$`, `.`, a letter or a digit
is_coded : ℕ → Bool
is_coded c = eqb c 32 || eqb c 36 || eqb c 46 || (ltb 64 c && ltb c 91) || (ltb 47 c && ltb c 58)

coded_test : ℕ → Bool
coded_test k = eqb (character_of k) 37 || is_coded (character_of k)

neither : (b d : Bool) → (b || d) ≡ true → b ≡ false → d ≡ false → ⊥
neither true d e f g = absurd cc
neither false d e f g = absurd cc

absent : (c : ℕ) → eqb c 37 ≡ false → is_coded c ≡ false → (o : Option ℕ) → position (λ x. eqb x c) alphabet ≡ o → o ≡ None
unfolding all_below coded_test is_coded alphabet character_of
absent c percent other None e = refl
absent c percent other (Some k) e =
    let found = position-Some (λ x. eqb x c) alphabet k 0 e in
    let here : character_of k ≡ c = eqb-true _ _ found.1 in
    let test : (eqb c 37 || is_coded c) ≡ true =
    subst (λ (x : ℕ). (eqb x 37 || is_coded x) ≡ true) here (all_below_at coded_test 40 k refl found.0) in
    absurd (neither (eqb c 37) (is_coded c) test percent other)

unless : (b : Bool) (o : Option ℕ) → (b ≡ false → o ≡ None) → cond b None o ≡ None
unless true o h = refl
unless false o h = h refl

pub others_uncoded : (c : ℕ) → c ≢ 32 → c ≢ 36 → c ≢ 46 → (65 ≤ c → c ≤ 90 → ⊥) → (48 ≤ c → c ≤ 57 → ⊥) → code_of c ≡ None
unfolding is_coded code_of
others_uncoded c blank dollar point letter digit =
    unless (eqb c 37) (position (λ x. eqb x c) alphabet) (λ percent. absent c percent (grind (arith, nat_tests)) _ refl)

-- ---- words

-- a word made of three digits in base 40 has these digits
digits_again : (x y z : ℕ) → x < 40 → y < 40 → z < 40
    → ((x * 1600 + y * 40 + z) / 1600 ≡ x) × ((x * 1600 + y * 40 + z) / 40 % 40 ≡ y)
    × ((x * 1600 + y * 40 + z) % 40 ≡ z)
digits_again x y z x-fits y-fits z-fits = (omega arith, omega arith, omega arith)

three_items : (text : List ℕ) → length text ≡ 3
    → text ≡ slice_index text 0 ∷ slice_index text 1 ∷ slice_index text 2 ∷ []
three_items [] e = absurd (omega arith)
three_items (a ∷ []) e = absurd (omega arith)
three_items (a ∷ b ∷ []) e = absurd (omega arith)
three_items (a ∷ b ∷ c ∷ []) e = refl
three_items (a ∷ b ∷ c ∷ d ∷ rest) e = absurd (omega arith)

-- the word that packs three characters unpacks to these characters
pub unpacked_again : (text : List ℕ) (x y z : ℕ) → length text ≡ 3 → code_of (slice_index text 0) ≡ Some x
    → code_of (slice_index text 1) ≡ Some y → code_of (slice_index text 2) ≡ Some z
    → unpacked (x * 1600 + y * 40 + z) ≡ Some text
unpacked_again text x y z len first second third =
    let a = character_again (slice_index text 0) x first in
    let b = character_again (slice_index text 1) y second in
    let c = character_again (slice_index text 2) z third in
    let d = digits_again x y z a.0 b.0 c.0 in
    let below : ltb (x * 1600 + y * 40 + z) 64000 ≡ true = lt-ltb _ _ (omega arith) in
    rw (below, d.0, d.1, d.2, a.1, b.1, c.1) (ap (λ (t : List ℕ). Some t) (sym (three_items text len)))

packed_same : (word : ℕ) → word < word_limit → HasNoPercent (characters_of word)
    → packed_at (characters_of word) 0 ≡ Some word
packed_same word lt plain =
    let a = code_again (word / 1600) (omega arith) (plain 0 0 (omega arith)) in
    let b = code_again (word / 40 % 40) (omega arith) (plain 1 0 (omega arith)) in
    let c = code_again (word % 40) (omega arith) (plain 2 0 (omega arith)) in
    let sum : word / 1600 * 1600 + word / 40 % 40 * 40 + word % 40 ≡ word = omega arith in
    rw (a, b, c) (ap (λ (w : ℕ). Some w) sum)

-- the three characters of a word pack to that word, unless one of them is `%`
pub packed_again : (word a b c : ℕ) → word < word_limit → a ≡ character_of (word / 1600)
    → b ≡ character_of (word / 40 % 40) → c ≡ character_of (word % 40) → HasNoPercent (a ∷ b ∷ c ∷ [])
    → packed_at (a ∷ b ∷ c ∷ []) 0 ≡ Some word
packed_again word a b c lt first second third plain =
    let same : a ∷ b ∷ c ∷ [] ≡ characters_of word = cc in
    let P : List ℕ → Type 0 = λ text. HasNoPercent text → packed_at text 0 ≡ Some word in
    subst P (sym same) (packed_same word lt) plain

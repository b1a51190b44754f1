-- Names that a source can define spell themselves, and aren't those of registers.
use Rattle.std.proofs.Common.{◌≡◌, ◌≢◌, ◌∙◌, ℕ, zero, suc, ◌/◌, ◌%◌, ◌<◌, Bool, true, false, ◌&&◌, ◌||◌, [], ◌∷◌, length, map, Option, Some, option_map, refl, sym, ap, ap₂, subst, arith, inl, inr}
use Rattle.std.specs.Prelude.{◌==◌, not, nat_lt, if◌then◌else◌, slice_index}
use Rattle.std.specs.List.{AllByRecursion, list_all, list_any}
use Rattle.std.specs.Str.{bytes_eq}
use Rattle.std.proofs.lemmas.Bool.{agree_below_at, and_from, and_parts, both_ways, cases_lt, eqb-true, eqb-false, false_from_ne_true, le-ltb, lt-ltb, not-true}
use Rattle.m11_base.specs.Devices.{Bytes}
use Rattle.m11_base.specs.NameCharacters.{character_at, folded, is_name_character, six_of}
use Rattle.m11_base.specs.Rad50.{HasNoPercent, IsName, Name, alphabet, character_of, characters_of, code_of, is_same_name, name_of, name_of_words, name_text, packed_at, word_limit}
use Rattle.m11_base.specs.declared.operand.Register.{Register}
use Rattle.m11_base.specs.declared.operand.Register.TheVariants.{R0, R1, R2, R3, R4, R5, Sp, Pc}
use Rattle.m11_base.proofs.Characters.{packed_again}
use Rattle.m11_base.proofs.SameNames.{same_name_equal}
use Rattle.m11_base_disassembly.specs.Names.{bare_name}
use Rattle.m11_base_disassembly.specs.declared.symbols.Scope.TheVariants.{Unknown}
use Rattle.m11_base_disassembly.specs.declared.symbols.Symbol.{Symbol}
use Rattle.m11_scan_expressions.specs.Terms.{is_counter}
use Rattle.m11_scan_expressions.specs.declared.names.Symbol.TheVariants.{Counter, Ordinary}
use Rattle.m11_asm_dump_laws.specs.Items.{IsNoRegister}
use Rattle.m11_asm_dump_laws.specs.Knowledge.{IsSpelled, register_name}
use Rattle.m11_asm_dump_laws.specs.Operands.{is_name_text}
use Rattle.m11_dump_source.specs.Labels.{are_spaces, is_definable, is_digit, is_padded, reserved}

-- a source can define this symbol
pub record CanDefine (symbol : Symbol) : Type 0 where
  pub alone : symbol.scope ≡ Unknown
  pub is_name : IsName symbol.name
  pub definable : is_definable (name_text symbol.name) ≡ true

-- ---- characters

-- a character of a name: a blank, `%`, or one that stands for itself in a source
abbrev pub is_known : ℕ → Bool
is_known character = character == 37 || (character == 32 || (is_name_character character && folded character == character))

pub known_character : (code : ℕ) → code < 40 → is_known (character_of code) ≡ true
unfolding alphabet character_of
known_character code below = agree_below_at (λ k. is_known (character_of k)) (λ k. true) 40 code refl below

abbrev pub AreKnown : Bytes → Type 0
AreKnown characters = AllByRecursion (λ character. is_known character ≡ true) characters

pub name_known : (name : Name) → IsName name → AreKnown (name_text name)
name_known name is =
    let first : AreKnown (characters_of name.1) = (
      known_character (name.1 / 1600) (omega (arith, is.1)),
      (known_character (name.1 / 40 % 40) (omega arith), (known_character (name.1 % 40) (omega arith), tt)),
    ) in (
      known_character (name.0 / 1600) (omega (arith, is.0)),
      (known_character (name.0 / 40 % 40) (omega arith), (known_character (name.0 % 40) (omega arith), first)),
    )

-- a character that is neither `%` nor a blank stands for itself
itself : (character : ℕ) → (character == 37) ≡ false → (character == 32) ≡ false → is_known character ≡ true
    → (is_name_character character ≡ true) × (folded character ≡ character)
itself character percent space known =
    let own : Bool = is_name_character character && folded character == character in
    let left : ((character == 32) || own) ≡ true = ap (λ (b : Bool). b || ((character == 32) || own)) (sym percent) ∙ known in
    let last : own ≡ true = ap (λ (b : Bool). b || own) (sym space) ∙ left in
    let parts = and_parts (is_name_character character) (folded character == character) last in
    (parts.0, eqb-true (folded character) character parts.1)

-- ---- a name up to its first space

named_by : (character : ℕ) (rest : Bytes) (b : Bool) → (character == 32) ≡ b → is_known character ≡ true
    → (if b then are_spaces rest else not (character == 37) && is_padded rest) ≡ true
    → (is_padded rest ≡ true → list_all is_name_character (bare_name rest) ≡ true)
    → list_all is_name_character (if b then [] else character ∷ bare_name rest) ≡ true
named_by character rest true is known padded others = refl
named_by character rest false is known padded others =
    let parts = and_parts (not (character == 37)) (is_padded rest) padded in
    let own = itself character (not-true (character == 37) parts.0) is known in
    and_from (is_name_character character) (list_all is_name_character (bare_name rest)) own.0 (others parts.1)

named_characters : (characters : Bytes) → AreKnown characters → is_padded characters ≡ true
    → list_all is_name_character (bare_name characters) ≡ true
named_characters [] known padded = refl
named_characters (character ∷ rest) known padded =
    named_by character rest (character == 32) refl known.0 padded (λ p. named_characters rest known.1 p)

space_at : (rest : Bytes) → are_spaces rest ≡ true → (index : ℕ) → index < length rest → slice_index rest index ≡ 32
space_at [] spaces index within = absurd (omega (arith, within))
space_at (character ∷ rest) spaces zero within = eqb-true character 32 (and_parts (character == 32) (are_spaces rest) spaces).0
space_at (character ∷ rest) spaces (suc index) within =
    space_at rest (and_parts (character == 32) (are_spaces rest) spaces).1 index (omega (arith, within))

past : (index : ℕ) → character_at [] index ≡ 32
past index = ap (λ (b : Bool). if b then folded 0 else 32) (le-ltb index 0 (omega arith))

first_at : (character : ℕ) (text : Bytes) → character_at (character ∷ text) 0 ≡ folded character
first_at character text = ap (λ (b : Bool). if b then folded character else 32) (lt-ltb 0 (suc (length text)) (omega arith))

lt_next : (one other : ℕ) → nat_lt (suc one) (suc other) ≡ nat_lt one other
lt_next one other = elim (cases_lt one other) [
  | inl below ↦ lt-ltb (suc one) (suc other) (omega (arith, below)) ∙ sym (lt-ltb one other below)
  | inr above ↦ le-ltb (suc one) (suc other) (omega (arith, above)) ∙ sym (le-ltb one other above)
]

next_at : (character : ℕ) (text : Bytes) (index : ℕ) → character_at (character ∷ text) (suc index) ≡ character_at text index
next_at character text index = ap (λ (b : Bool). if b then folded (slice_index text index) else 32) (lt_next index (length text))

same_by : (character : ℕ) (rest : Bytes) (b : Bool) → (character == 32) ≡ b → is_known character ≡ true
    → (if b then are_spaces rest else not (character == 37) && is_padded rest) ≡ true
    → (is_padded rest ≡ true → (index : ℕ) → index < length rest → character_at (bare_name rest) index ≡ slice_index rest index)
    → (index : ℕ) → index < suc (length rest)
    → character_at (if b then [] else character ∷ bare_name rest) index ≡ slice_index (character ∷ rest) index
same_by character rest true is known padded others zero within = past 0 ∙ sym (eqb-true character 32 is)
same_by character rest true is known padded others (suc index) within =
    past (suc index) ∙ sym (space_at rest padded index (omega (arith, within)))
same_by character rest false is known padded others zero within =
    let parts = and_parts (not (character == 37)) (is_padded rest) padded in
    first_at character (bare_name rest) ∙ (itself character (not-true (character == 37) parts.0) is known).1
same_by character rest false is known padded others (suc index) within =
    let parts = and_parts (not (character == 37)) (is_padded rest) padded in
    next_at character (bare_name rest) index ∙ others parts.1 index (omega (arith, within))

same_character : (characters : Bytes) → AreKnown characters → is_padded characters ≡ true → (index : ℕ) → index < length characters
    → character_at (bare_name characters) index ≡ slice_index characters index
same_character [] known padded index within = absurd (omega (arith, within))
same_character (character ∷ rest) known padded index within =
    same_by character rest (character == 32) refl known.0 padded (λ p. same_character rest known.1 p) index within

six : (f : ℕ → ℕ) (a b c d e g : ℕ) → f 0 ≡ a → f 1 ≡ b → f 2 ≡ c → f 3 ≡ d → f 4 ≡ e → f 5 ≡ g
    → map f (0 ∷ 1 ∷ 2 ∷ 3 ∷ 4 ∷ 5 ∷ []) ≡ a ∷ b ∷ c ∷ d ∷ e ∷ g ∷ []
six f a b c d e g p q r s t u = λ i. p i ∷ q i ∷ r i ∷ s i ∷ t i ∷ u i ∷ []

-- the characters that count are those of the name
six_again : (name : Name) → IsName name → is_padded (name_text name) ≡ true → six_of (bare_name (name_text name)) ≡ name_text name
six_again name is padded =
    let text : Bytes = name_text name in
    let at : (index : ℕ) → index < 6 → character_at (bare_name text) index ≡ slice_index text index =
    same_character text (name_known name is) padded in
    six (character_at (bare_name text)) (slice_index text 0) (slice_index text 1) (slice_index text 2) (slice_index text 3)
    (slice_index text 4) (slice_index text 5) (at 0 (omega arith)) (at 1 (omega arith)) (at 2 (omega arith)) (at 3 (omega arith))
    (at 4 (omega arith)) (at 5 (omega arith))

-- ---- the words of a name

abbrev NoPercent : ℕ → Type 0
NoPercent character = character ≢ 37

spaces_plain : (characters : Bytes) → are_spaces characters ≡ true → AllByRecursion NoPercent characters
spaces_plain [] spaces = tt
spaces_plain (character ∷ rest) spaces =
    let parts = and_parts (character == 32) (are_spaces rest) spaces in
    let own : character ≡ 32 = eqb-true character 32 parts.0 in (omega (arith, own), spaces_plain rest parts.1)

plain_by : (character : ℕ) (rest : Bytes) (b : Bool) → (character == 32) ≡ b
    → (if b then are_spaces rest else not (character == 37) && is_padded rest) ≡ true
    → (is_padded rest ≡ true → AllByRecursion NoPercent rest) → AllByRecursion NoPercent (character ∷ rest)
plain_by character rest true is padded others =
    let own : character ≡ 32 = eqb-true character 32 is in (omega (arith, own), spaces_plain rest padded)
plain_by character rest false is padded others =
    let parts = and_parts (not (character == 37)) (is_padded rest) padded in
    (eqb-false character 37 (not-true (character == 37) parts.0), others parts.1)

padded_plain : (characters : Bytes) → is_padded characters ≡ true → AllByRecursion NoPercent characters
padded_plain [] padded = tt
padded_plain (character ∷ rest) padded = plain_by character rest (character == 32) refl padded (λ p. padded_plain rest p)

three_plain : (a b c : ℕ) → NoPercent a → NoPercent b → NoPercent c → HasNoPercent (a ∷ b ∷ c ∷ [])
three_plain a b c p q r zero d within = p
three_plain a b c p q r (suc zero) d within = q
three_plain a b c p q r (suc (suc zero)) d within = r
three_plain a b c p q r (suc (suc (suc k))) d within = absurd (omega (arith, within))

word_again : (word : ℕ) → word < word_limit → AllByRecursion NoPercent (characters_of word) → packed_at (characters_of word) 0 ≡ Some word
word_again word below plain =
    packed_again word (character_of (word / 1600)) (character_of (word / 40 % 40)) (character_of (word % 40)) below refl refl refl
    (three_plain (character_of (word / 1600)) (character_of (word / 40 % 40)) (character_of (word % 40)) plain.0 plain.1.0 plain.1.1.0)

pub name_again : (name : Name) → IsName name → is_padded (name_text name) ≡ true → name_of (name_text name) ≡ Some name
name_again name is padded =
    let plain : AllByRecursion NoPercent (name_text name) = padded_plain (name_text name) padded in
    ap₂ name_of_words (word_again name.0 is.0 (plain.0, (plain.1.0, (plain.1.1.0, tt)))) (word_again name.1 is.1 plain.1.1.1)

-- ---- the name of a symbol that a source can define

counter_by : (text : Bytes) → bytes_eq text (46 ∷ []) ≡ false → is_counter text ≡ false
counter_by [] is = refl
counter_by (byte ∷ []) is = and_true (byte == 46) is
  where
    and_true : (b : Bool) → (b && true) ≡ false → b ≡ false
    and_true true e = e
    and_true false e = refl
counter_by (byte ∷ next ∷ text) is = refl

name_text_by : (character : ℕ) (rest : Bytes) (b : Bool) → (character == 32) ≡ b → not b ≡ true → not (is_digit character) ≡ true
    → list_all is_name_character (if b then [] else character ∷ bare_name rest) ≡ true
    → is_name_text (if b then [] else character ∷ bare_name rest) ≡ true
name_text_by character rest true is no_space no_digit named = absurd (both_ways false refl no_space)
name_text_by character rest false is no_space no_digit named =
    and_from (not (is_digit character)) (list_all is_name_character (character ∷ bare_name rest)) no_digit named

-- what a definable name is
pub record IsPlain (characters : Bytes) : Type 0 where
  pub first : not (slice_index characters 0 == 32) ≡ true
  pub no_digit : not (is_digit (slice_index characters 0)) ≡ true
  pub padded : is_padded characters ≡ true
  pub free : list_any (bytes_eq (bare_name characters)) reserved ≡ false

pub plain_of : (characters : Bytes) → is_definable characters ≡ true → IsPlain characters
plain_of characters definable =
    let first : Bool = not (slice_index characters 0 == 32) in
    let no_digit : Bool = not (is_digit (slice_index characters 0)) in
    let named : Bool = list_any (bytes_eq (bare_name characters)) reserved in
    let outer = and_parts (first && no_digit && is_padded characters) (not named) definable in
    let middle = and_parts (first && no_digit) (is_padded characters) outer.0 in
    let inner = and_parts first no_digit middle.0 in
    record { first = inner.0; no_digit = inner.1; padded = middle.1; free = not-true named outer.1 }

no_counter : (text : Bytes) → list_any (bytes_eq text) reserved ≡ false → is_counter text ≡ false
no_counter text free = counter_by text (first_false _ _ free)
  where
    first_false : (b c : Bool) → (b || c) ≡ false → b ≡ false
    first_false true c e = e
    first_false false c e = refl

pub can_spell : (symbol : Symbol) → CanDefine symbol → IsSpelled symbol
can_spell symbol can =
    let name : Name = symbol.name in
    let text : Bytes = name_text name in
    let plain = plain_of text can.definable in
    let character : ℕ = character_of (name.0 / 1600) in
    record {
      alone = can.alone;
      is_name = name_text_by character (character_of (name.0 / 40 % 40) ∷ character_of (name.0 % 40) ∷ characters_of name.1)
          (character == 32) refl plain.first plain.no_digit (named_characters text (name_known name can.is_name) plain.padded);
      spelled =
          ap (λ (b : Bool). if b then Some Counter else option_map Ordinary (name_of (six_of (bare_name text))))
          (no_counter (bare_name text) plain.free)
          ∙ ap (λ (t : Bytes). option_map Ordinary (name_of t)) (six_again name can.is_name plain.padded)
          ∙ ap (λ (o : Option Name). option_map Ordinary o) (name_again name can.is_name plain.padded);
    }

-- ---- registers

register_reserved : (register : Register) → list_any (bytes_eq (bare_name (name_text (register_name register)))) reserved ≡ true
unfolding alphabet character_of code_of
register_reserved R0 = refl
register_reserved R1 = refl
register_reserved R2 = refl
register_reserved R3 = refl
register_reserved R4 = refl
register_reserved R5 = refl
register_reserved Sp = refl
register_reserved Pc = refl

pub no_register : (symbol : Symbol) → CanDefine symbol → IsNoRegister symbol
no_register symbol can register =
    false_from_ne_true (is_same_name (register_name register) symbol.name) (λ same.
    both_ways (list_any (bytes_eq (bare_name (name_text symbol.name))) reserved) (plain_of (name_text symbol.name) can.definable).free
    (subst (λ (n : Name). list_any (bytes_eq (bare_name (name_text n))) reserved ≡ true)
    (same_name_equal (register_name register) symbol.name same) (register_reserved register)))

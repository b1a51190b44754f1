-- RADIX-50: three characters in one word, six in a name. (MACRO-11 Language Reference Manual, appendix on the RADIX-50 character
-- set.) The manual leaves the code 29 unused, so no character has it; that it is shown as `%` is this project's own choice.
use Rattle.std.specs.Prelude.{◌≢◌, ℕ, ◌+◌, ◌*◌, ◌/◌, ◌%◌, ◌<◌, List, [], ◌∷◌, ◌++◌, codes, slice_index, position, All, Option, Some, None, nat_lt, Bool, ◌==◌, ◌&&◌, if◌then◌else◌}

-- the characters, each at the index of its code
unfoldable pub alphabet : List ℕ
alphabet = codes " ABCDEFGHIJKLMNOPQRSTUVWXYZ$.%0123456789"

-- the code of a character, if it has one
unfoldable pub code_of : ℕ → Option ℕ
code_of character = if character == 0o45 then None else position (λ x. x == character) alphabet

-- the character that shows a code below 40
unfoldable pub character_of : ℕ → ℕ
character_of code = slice_index alphabet code

-- the first word without characters, 40 * 40 * 40
abbrev pub word_limit : ℕ
word_limit = 0o175000

-- the word made of three codes; None if one of them is missing
abbrev pub word_of_codes : Option ℕ → Option ℕ → Option ℕ → Option ℕ
word_of_codes (Some first) (Some second) (Some third) = Some (first * 1600 + second * 40 + third)
word_of_codes (Some first) (Some second) None = None
word_of_codes (Some first) None third = None
word_of_codes None second third = None

-- the word that packs three characters of a text, the first of them at an index, if each has a code
abbrev pub packed_at : List ℕ → ℕ → Option ℕ
packed_at text index =
    word_of_codes (code_of (slice_index text index)) (code_of (slice_index text (index + 1)))
    (code_of (slice_index text (index + 2)))

-- the three characters of a word: those of its digits in base 40
abbrev pub characters_of : ℕ → List ℕ
characters_of word =
    character_of (word / 1600) ∷ character_of (word / 40 % 40) ∷ character_of (word % 40) ∷ []

abbrev pub unpacked : ℕ → Option (List ℕ)
unpacked word = if nat_lt word word_limit then Some (characters_of word) else None

-- no character of a text is the `%` of the unused code
abbrev pub HasNoPercent : List ℕ → Type 0
HasNoPercent text = All (λ character. character ≢ 0o45) text

-- a name, as the words of its first and its last three characters
abbrev pub Name : Type 0
Name = ℕ × ℕ

-- whether two names are equal: their first words are equal, and so are their second words
abbrev pub is_same_name : Name → Name → Bool
is_same_name one other = (one.0 == other.0) && (one.1 == other.1)

-- both words are below octal 175000, so that they have characters
abbrev pub IsName : Name → Type 0
IsName name = (name.0 < word_limit) × (name.1 < word_limit)

-- the name made of two words; None if one of them is missing
abbrev pub name_of_words : Option ℕ → Option ℕ → Option Name
name_of_words (Some first) (Some second) = Some (first, second)
name_of_words (Some first) None = None
name_of_words None second = None

-- the name that a text of six characters spells, if each has a code
abbrev pub name_of : List ℕ → Option Name
name_of text = name_of_words (packed_at text 0) (packed_at text 3)

-- the six characters of a name
abbrev pub name_text : Name → List ℕ
name_text name = characters_of name.0 ++ characters_of name.1

-- The table of codes has the code of each byte.
use Rattle.std.proofs.Common.{◌≡◌, ℕ, ◌<◌, Bool, true, eqb, get_or, Option, Some, None, refl}
use Rattle.std.proofs.lemmas.Bool.{agree_below_at, eqb-true, lt-ltb}
use Rattle.m11_base.specs.NameCharacters.{folded}
use Rattle.m11_base.specs.Rad50.{alphabet, code_of, word_of_codes}
use Rattle.m11_base.proofs.Characters.{character_again}
use Rattle.m11_scan.specs.Codes.{code_or_no, code_or_none}
use Rattle.m11_scan.specs.declared.codes.TheConstants.{CODES}

has_code : ℕ → Bool
has_code byte = eqb (get_or CODES byte 0) (code_or_none (code_of (folded byte)))

pub each_listed : (byte : ℕ) → byte < 256 → get_or CODES byte 0 ≡ code_or_none (code_of (folded byte))
unfolding has_code code_of alphabet
each_listed byte lt = eqb-true _ _ (agree_below_at has_code (λ _. true) 256 byte refl lt)

pub blank_code : code_or_none (code_of 32) ≡ 0
unfolding code_of alphabet
blank_code = refl

-- a code that becomes a number, and a code again, is unchanged
code_again : (code : Option ℕ) → ((c : ℕ) → code ≡ Some c → c < 40) → code_or_no (code_or_none code) ≡ code
code_again None below = refl
code_again (Some c) below = let lt = below c refl in rw (lt-ltb c 40 lt) refl

pub same_code : (character : ℕ) → code_or_no (code_or_none (code_of character)) ≡ code_of character
same_code character = code_again (code_of character) (λ c e. (character_again character c e).0)

-- the word of three blanks, which follow the end of a text, is 0
pub blank_word : word_of_codes (code_of 32) (code_of 32) (code_of 32) ≡ Some 0
unfolding code_of alphabet
blank_word = refl

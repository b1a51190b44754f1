-- Characters of names have codes.
use Rattle.std.proofs.Common.{◌≡◌, ℕ, ◌<◌, Bool, true, false, not, ◌||◌, List, length, get_or, Option, Some, None, refl, sym, ◌∙◌, inl, inr}
use Rattle.std.specs.List.{list_all}
use Rattle.std.specs.Option.{is_some}
use Rattle.std.proofs.lemmas.Bool.{agree_below_at, cases_Bool, cases_lt, false≢true, le-ltb, lt-ltb}
use Rattle.std.proofs.lemmas.List.Folds.{list_all_at}
use Rattle.m11_base.specs.NameCharacters.{character_at, folded, is_name_character, six_of}
use Rattle.m11_base.specs.Rad50.{alphabet, code_of, name_of, name_of_words, word_of_codes}

or_of_not : (a b : Bool) → a ≡ true → (not a || b) ≡ b
or_of_not true b e = refl
or_of_not false b e = absurd cc

-- whether a byte, if it is a character of names, has a code in upper case
has_code_if : ℕ → Bool
has_code_if byte = not (is_name_character byte) || is_some (code_of (folded byte))

coded_below : (byte : ℕ) → byte < 256 → has_code_if byte ≡ true
unfolding has_code_if code_of alphabet
coded_below byte lt = agree_below_at has_code_if (λ b. true) 256 byte refl lt

coded_character : (byte : ℕ) → byte < 256 → is_name_character byte ≡ true → is_some (code_of (folded byte)) ≡ true
unfolding has_code_if
coded_character byte lt name =
    let h : (not (is_name_character byte) || is_some (code_of (folded byte))) ≡ true = coded_below byte lt in
    sym (or_of_not (is_name_character byte) (is_some (code_of (folded byte))) name) ∙ h

blank_coded : is_some (code_of 32) ≡ true
unfolding code_of alphabet
blank_coded = refl

-- if three characters have codes, there is a word of them
word_some : (a b c : Option ℕ) → is_some a ≡ true → is_some b ≡ true → is_some c ≡ true
    → is_some (word_of_codes a b c) ≡ true
word_some (Some a) (Some b) (Some c) x y z = refl
word_some (Some a) (Some b) None x y z = z
word_some (Some a) None c x y z = y
word_some None b c x y z = x

name_some : (a b : Option ℕ) → is_some a ≡ true → is_some b ≡ true → is_some (name_of_words a b) ≡ true
name_some (Some a) (Some b) x y = refl
name_some (Some a) None x y = y
name_some None b x y = x

module _ (text : List ℕ) (fits : (i : ℕ) → get_or text i 0 < 256) (all : list_all is_name_character text ≡ true) where
  named : (index : ℕ) → index < length text → is_name_character (get_or text index 0) ≡ true
  named index lt = elim (cases_Bool (is_name_character (get_or text index 0))) [
    | inl name ↦ name
    | inr other ↦ absurd (false≢true (sym (list_all_at is_name_character text index 0 lt other) ∙ all))
  ]

  coded : (index : ℕ) → is_some (code_of (character_at text index)) ≡ true
  coded index = elim (cases_lt index (length text)) [
    | inl lt ↦ rw (lt-ltb index (length text) lt) (coded_character (get_or text index 0) (fits index) (named index lt))
    | inr le ↦ rw (le-ltb index (length text) le) blank_coded
  ]

  pub six_some : is_some (name_of (six_of text)) ≡ true
  six_some = name_some _ _ (word_some _ _ _ (coded 0) (coded 1) (coded 2)) (word_some _ _ _ (coded 3) (coded 4) (coded 5))

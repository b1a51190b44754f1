-- A token that is a name consists of characters of names.
use Rattle.std.proofs.Common.{◌≡◌, ℕ, ◌+◌, ◌-◌, ◌≤◌, Bool, true, false, ◌&&◌, List, [], ◌∷◌, ◌++◌, length, drop, take, Option, Some, None, refl, sym, ap, ◌∙◌, subst, arith}
use Rattle.std.specs.Prelude.{◌==◌, nat_le, if◌then◌else◌}
use Rattle.std.specs.List.{list_all}
use Rattle.std.proofs.lemmas.Bool.{false≢true, le-leb}
use Rattle.std.proofs.lemmas.List.{drop-drop, length-drop}
use Rattle.m11_base.specs.NameCharacters.{folded, is_name_character}
use Rattle.m11_scan.specs.Classes.{is_blank, is_digit}
use Rattle.m11_scan.specs.declared.sort.Sort.{Sort}
use Rattle.m11_scan.specs.declared.sort.Sort.TheVariants.{Name, Number, DecimalNumber, LocalSymbol, Character, TwoCharacters, Packed, BinaryRadix, OctalRadix, DecimalRadix, Complement, Colon, TwoColons, Equals, TwoEquals}
use Rattle.m11_scan.specs.declared.sort.Form.{Form}
use Rattle.m11_scan.specs.declared.sort.Form.TheVariants.{Cut, Blank, Comment, Skipped}
use Rattle.m11_scan.specs.declared.pieces.Piece.{Piece}
use Rattle.m11_scan.specs.Cutting.{Lexeme, lexemes_at, lexemes_from, pieces_of, text_between, tokens_from}
use Rattle.m11_scan.specs.Cuts.{IsCut, all_pass, alone, at_most, caret_form, doubled_form, form_of, marked_form, number_form}
use Rattle.m11_scan.specs.Names.{has_name_characters_alone}
use Rattle.m11_scan.specs.Pieces.{mark_form}
use Rattle.m11_scan.proofs.OnlyCut.{pieces_of-cut}

abbrev names_sort : Sort → Bool
names_sort Name = true
names_sort _ = false

abbrev names_form : Form → Bool
names_form (Cut sort) = names_sort sort
names_form Blank = false
names_form Comment = false
names_form Skipped = false

abbrev names_found : Option Form → Bool
names_found (Some form) = names_form form
names_found None = false

-- a form that isn't that of a name
record IsUnnamed (form : Form) : Type 0 where
  unnamed : names_form form ≡ false

record IsOther (found : Option Form) : Type 0 where
  other : names_found found ≡ false

unnamed : (form : Form) → names_form form ≡ false → IsUnnamed form
unnamed form is = record { unnamed = is }

found : (form : Form) → IsUnnamed form → IsOther (Some form)
found form is = record { other = is.unnamed }

none : IsOther None
none = record { other = refl }

-- if two values have a property, so has the one that a test chooses
either : {A : Type 0} (P : A → Type 0) (test : Bool) (one other : A) → P one → P other → P (if test then one else other)
either P true one other a b = a
either P false one other a b = b

-- a piece that doesn't begin with a character of names isn't a name
mark_other : (byte : ℕ) → IsUnnamed (mark_form byte)
mark_other byte =
    either IsUnnamed (byte == 0o53) _ _ (unnamed _ refl)
    (either IsUnnamed (byte == 0o55) _ _ (unnamed _ refl)
    (either IsUnnamed (byte == 0o52) _ _ (unnamed _ refl)
    (either IsUnnamed (byte == 0o57) _ _ (unnamed _ refl)
    (either IsUnnamed (byte == 0o46) _ _ (unnamed _ refl)
    (either IsUnnamed (byte == 0o41) _ _ (unnamed _ refl)
    (either IsUnnamed (byte == 0o74) _ _ (unnamed _ refl)
    (either IsUnnamed (byte == 0o76) _ _ (unnamed _ refl)
    (either IsUnnamed (byte == 0o45) _ _ (unnamed _ refl)
    (either IsUnnamed (byte == 0o43) _ _ (unnamed _ refl)
    (either IsUnnamed (byte == 0o100) _ _ (unnamed _ refl)
    (either IsUnnamed (byte == 0o50) _ _ (unnamed _ refl)
    (either IsUnnamed (byte == 0o51) _ _ (unnamed _ refl)
    (either IsUnnamed (byte == 0o54) _ _ (unnamed _ refl)
    (either IsUnnamed (byte == 0o72) _ _ (unnamed _ refl)
    (either IsUnnamed (byte == 0o75) _ _ (unnamed _ refl)
    (unnamed _ refl))))))))))))))))

alone_other : (form : Form) (more : List ℕ) → IsUnnamed form → IsOther (alone form more)
alone_other form [] is = found form is
alone_other form (byte ∷ more) is = none

sort_alone : (sort : Sort) (more : List ℕ) → names_sort sort ≡ false → IsOther (alone (Cut sort) more)
sort_alone sort more is = alone_other (Cut sort) more (unnamed (Cut sort) is)

at_most_other : (count : ℕ) (sort : Sort) (more : List ℕ) → names_sort sort ≡ false
    → IsOther (at_most count (Cut sort) more)
at_most_other count sort more is =
    either IsOther (nat_le (length more) count) (Some (Cut sort)) None (found (Cut sort) (unnamed (Cut sort) is)) none

packed_other : (more : List ℕ) → IsOther (all_pass is_name_character (Cut Packed) more)
packed_other more =
    either IsOther (list_all is_name_character more) (Some (Cut Packed)) None (found (Cut Packed) (unnamed (Cut Packed) refl)) none

number_other : (more : List ℕ) → IsOther (number_form more)
number_other [] = found (Cut Number) (unnamed (Cut Number) refl)
number_other (byte ∷ more) =
    either IsOther (is_digit byte) _ _ (number_other more)
    (either IsOther (byte == 0o56) _ _ (sort_alone DecimalNumber more refl)
    (either IsOther (byte == 0o44) _ _ (sort_alone LocalSymbol more refl) none))

caret_other : (more : List ℕ) → IsOther (caret_form more)
caret_other [] = found Skipped (unnamed Skipped refl)
caret_other (flag ∷ more) =
    either IsOther (folded flag == 0o102) _ _ (sort_alone BinaryRadix more refl)
    (either IsOther (folded flag == 0o117) _ _ (sort_alone OctalRadix more refl)
    (either IsOther (folded flag == 0o104) _ _ (sort_alone DecimalRadix more refl)
    (either IsOther (folded flag == 0o103) _ _ (sort_alone Complement more refl)
    (either IsOther (folded flag == 0o122) _ _ (packed_other more) none))))

doubled_other : (byte : ℕ) (single double : Sort) (more : List ℕ) → names_sort single ≡ false → names_sort double ≡ false
    → IsOther (doubled_form byte single double more)
doubled_other byte single double [] a b = found (Cut single) (unnamed (Cut single) a)
doubled_other byte single double (next ∷ more) a b = either IsOther (next == byte) _ _ (sort_alone double more b) none

marked_other : (byte : ℕ) (more : List ℕ) → IsOther (marked_form byte more)
marked_other byte more =
    either IsOther (byte == 0o47) _ _ (at_most_other 1 Character more refl)
    (either IsOther (byte == 0o42) _ _ (at_most_other 2 TwoCharacters more refl)
    (either IsOther (byte == 0o136) _ _ (caret_other more)
    (either IsOther (byte == 0o72) _ _ (doubled_other 0o72 Colon TwoColons more refl refl)
    (either IsOther (byte == 0o75) _ _ (doubled_other 0o75 Equals TwoEquals more refl refl)
    (alone_other (mark_form byte) more (mark_other byte))))))

other_begins : (byte : ℕ) (more : List ℕ)
    → IsOther (if is_blank byte then alone Blank more else (if byte == 0o73 then Some Comment else marked_form byte more))
other_begins byte more =
    either IsOther (is_blank byte) _ _ (alone_other Blank more (unnamed Blank refl))
    (either IsOther (byte == 0o73) _ _ (found Comment (unnamed Comment refl)) (marked_other byte more))

-- a text with the form of a name has characters of names alone
all_passed : (all : Bool) → names_found (if all then Some (Cut Name) else None) ≡ true → all ≡ true
all_passed true is = refl
all_passed false is = is

by_class : (digit name all : Bool) (number other : Option Form) → names_found number ≡ false → names_found other ≡ false
    → names_found (if digit then number else (if name then (if all then Some (Cut Name) else None) else other)) ≡ true
    → (name && all) ≡ true
by_class true name all number other a b is = absurd (false≢true (sym a ∙ is))
by_class false true all number other a b is = all_passed all is
by_class false false all number other a b is = absurd (false≢true (sym b ∙ is))

named_text : (text : List ℕ) → names_found (form_of text) ≡ true → has_name_characters_alone text ≡ true
named_text [] is = refl
named_text (byte ∷ more) is =
    by_class (is_digit byte) (is_name_character byte) (list_all is_name_character more) (number_form more) _
    (number_other more).other (other_begins byte more).other is

-- each token that is a name has characters of names alone
abbrev AreNamed : List Lexeme → Type 0
AreNamed [] = true ≡ true
AreNamed (token ∷ tokens) =
    (names_sort token.sort ≡ true → has_name_characters_alone token.text ≡ true) × AreNamed tokens

cut_named : (line : List ℕ) (start end : ℕ) → start ≤ end → end ≤ length line
    → names_found (form_of (take (end - start) (drop start line))) ≡ true
    → has_name_characters_alone (text_between line start end) ≡ true
cut_named line start end le within is =
    rw (le-leb start end le, le-leb end (length line) within) (named_text (take (end - start) (drop start line)) is)

with_piece : (line : List ℕ) (start end : ℕ) (form : Form) (tokens : List Lexeme) → start ≤ end → end ≤ length line
    → form_of (take (end - start) (drop start line)) ≡ Some form → AreNamed tokens
    → AreNamed (lexemes_at line start end form ++ tokens)
with_piece line start end (Cut sort) tokens le within is named =
    (λ name. cut_named line start end le within (ap names_found is ∙ name), named)
with_piece line start end Blank tokens le within is named = named
with_piece line start end Comment tokens le within is named = named
with_piece line start end Skipped tokens le within is named = named

named : (line : List ℕ) (column : ℕ) (pieces : List Piece) → column ≤ length line → IsCut pieces (drop column line)
    → AreNamed (lexemes_from line column pieces)
named line column [] le cut = refl
named line column (piece ∷ pieces) le (next, cut) =
    let within = next.within in
    let left = length-drop column line in
    let size : piece.length ≡ (column + piece.length) - column = omega arith in
    with_piece line column (column + piece.length) piece.form (lexemes_from line (column + piece.length) pieces)
    (omega arith) (omega arith) (ap (λ n. form_of (take n (drop column line))) (sym size) ∙ next.form)
    (named line (column + piece.length) pieces (omega arith) (subst (IsCut pieces) (drop-drop piece.length column line) cut))

-- if the first token at or after a column is a name, it has characters of names alone
pub name_named : (line : List ℕ) (column : ℕ) (first : Lexeme) (tokens : List Lexeme) → column ≤ length line
    → tokens_from line column ≡ first ∷ tokens → first.sort ≡ Name → has_name_characters_alone first.text ≡ true
name_named line column first tokens le stands name =
    let all = subst AreNamed stands (named line column (pieces_of (drop column line)) le (pieces_of-cut (drop column line))) in
    all.0 (ap names_sort name)

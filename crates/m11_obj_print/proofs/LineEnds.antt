-- How lines end, and how long they are.
use Rattle.std.proofs.Common.{◌≡◌, ◌==◌, ◌&&◌, ◌+◌, ◌≤◌, if◌then◌else◌, ℕ, Bool, true, false, List, [], ◌∷◌, ◌++◌, ◌∙◌, append_assoc, length, refl, sym, subst, arith}
use Rattle.std.proofs.lemmas.Bool.{false≢true}
use Rattle.std.proofs.lemmas.Bool.Decides.{nat_tests}
use Rattle.std.proofs.lemmas.List.{append_cancel_right, length-append}
use Rattle.std.specs.List.{list_all}
use Rattle.m11_base.proofs.LastBlanks.{kept}
use Rattle.m11_base.specs.Blanks.{without_last_blanks}
use Rattle.m11_obj_print.specs.Lines.{line_of}

abbrev is_blank : ℕ → Bool
is_blank byte = byte == 32

-- ---- a line is no longer than its text and a line feed

within_by : (b : Bool) (byte : ℕ) (bytes rest : List ℕ) → length rest ≤ length bytes
    → length (if b then [] else byte ∷ rest) ≤ length (byte ∷ bytes)
within_by true byte bytes rest h = omega arith
within_by false byte bytes rest h = omega arith

within : (bytes : List ℕ) → length (without_last_blanks bytes) ≤ length bytes
unfolding without_last_blanks
within [] = omega arith
within (byte ∷ bytes) =
    within_by (list_all is_blank (byte ∷ bytes)) byte bytes (without_last_blanks bytes) (within bytes)

pub length-line_of : (text : List ℕ) → length (line_of text) ≤ length text + 1
length-line_of text = omega (arith, within text, length-append (without_last_blanks text) (10 ∷ []))

-- ---- no blank comes last

empty_has_no_last : (front : List ℕ) (last : ℕ) → [] ≡ front ++ last ∷ [] → ⊥
empty_has_no_last [] last e = cc
empty_has_no_last (byte ∷ front) last e = cc

blank_by : (b : Bool) (byte : ℕ) (rest : List ℕ) → (if b then [] else byte ∷ rest) ≡ [] → b ≡ true
blank_by true byte rest e = refl
blank_by false byte rest e = cc

all_blank : (bytes : List ℕ) → without_last_blanks bytes ≡ [] → list_all is_blank bytes ≡ true
unfolding without_last_blanks
all_blank [] e = refl
all_blank (byte ∷ bytes) e = blank_by (list_all is_blank (byte ∷ bytes)) byte (without_last_blanks bytes) e

not_all_blank : (byte : ℕ) (bytes : List ℕ) → list_all is_blank (byte ∷ bytes) ≡ false → byte ≡ 32
    → without_last_blanks bytes ≡ [] → ⊥
not_all_blank byte bytes e is nothing =
    let P : ℕ → Type 0 = λ n. ((n == 32) && list_all is_blank bytes) ≡ false in
    let rest : list_all is_blank bytes ≡ false = subst P is e in
    false≢true (sym rest ∙ all_blank bytes nothing)

last_by : (front : List ℕ) (byte : ℕ) (bytes : List ℕ) (b : Bool) → list_all is_blank (byte ∷ bytes) ≡ b
    → ((f : List ℕ) → without_last_blanks bytes ≡ f ++ 32 ∷ [] → ⊥)
    → (if b then [] else byte ∷ without_last_blanks bytes) ≡ front ++ 32 ∷ [] → ⊥
last_by front byte bytes true e below h = empty_has_no_last front 32 h
last_by [] byte bytes false e below h =
    let is : byte ≡ 32 = cc in
    let nothing : without_last_blanks bytes ≡ [] = cc in
    not_all_blank byte bytes e is nothing
last_by (first ∷ front) byte bytes false e below h =
    let rest : without_last_blanks bytes ≡ front ++ 32 ∷ [] = cc in
    below front rest

no_last_blank : (bytes front : List ℕ) → without_last_blanks bytes ≡ front ++ 32 ∷ [] → ⊥
unfolding without_last_blanks
no_last_blank [] front e = empty_has_no_last front 32 e
no_last_blank (byte ∷ bytes) front e =
    last_by front byte bytes (list_all is_blank (byte ∷ bytes)) refl (no_last_blank bytes) e

pub ends_with_no_blank : (text front : List ℕ) → line_of text ≡ front ++ 32 ∷ 10 ∷ [] → ⊥
ends_with_no_blank text front e =
    no_last_blank text front (append_cancel_right (without_last_blanks text) (front ++ 32 ∷ []) (10 ∷ [])
    (e ∙ sym (append_assoc front (32 ∷ []) (10 ∷ []))))

-- ---- a text that doesn't end with a blank is in its line whole

not_blank : (byte : ℕ) → (byte ≡ 32 → ⊥) → is_blank byte ≡ false
not_blank byte other = grind (arith, nat_tests)

pub whole_line : (text : List ℕ) (last : ℕ) → (last ≡ 32 → ⊥) → line_of (text ++ last ∷ []) ≡ (text ++ last ∷ []) ++ 10 ∷ []
whole_line text last other =
    let P : List ℕ → Type 0 = λ bs. bs ++ 10 ∷ [] ≡ (text ++ last ∷ []) ++ 10 ∷ [] in
    subst P (kept text last (not_blank last other)) refl

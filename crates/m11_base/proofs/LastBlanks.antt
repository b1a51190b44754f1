-- Blanks at the end of a text.
use Rattle.std.proofs.Common.{◌≡◌, ◌==◌, ◌&&◌, if◌then◌else◌, ℕ, Bool, true, false, List, [], ◌∷◌, ◌++◌, refl, sym, subst}
use Rattle.std.proofs.Math.Bool.{and-false}
use Rattle.std.specs.List.{list_all}
use Rattle.m11_base.specs.Blanks.{without_last_blanks}

abbrev is_blank : ℕ → Bool
is_blank byte = byte == 32

all_with_blank : (bytes : List ℕ) → list_all is_blank (bytes ++ 32 ∷ []) ≡ list_all is_blank bytes
all_with_blank [] = refl
all_with_blank (byte ∷ bytes) =
    let P : Bool → Type 0 = λ b. (is_blank byte && b) ≡ (is_blank byte && list_all is_blank bytes) in
    subst P (sym (all_with_blank bytes)) refl

not_all : (bytes : List ℕ) (last : ℕ) → is_blank last ≡ false → list_all is_blank (bytes ++ last ∷ []) ≡ false
not_all [] last e = let P : Bool → Type 0 = λ b. (b && true) ≡ false in subst P (sym e) refl
not_all (byte ∷ bytes) last e =
    let P : Bool → Type 0 = λ b. (is_blank byte && b) ≡ false in
    subst P (sym (not_all bytes last e)) (and-false (is_blank byte))

-- without its last blanks, a text with one more blank at its end is the same
pub blank_removed : (bytes : List ℕ) → without_last_blanks (bytes ++ 32 ∷ []) ≡ without_last_blanks bytes
unfolding without_last_blanks
blank_removed [] = refl
blank_removed (byte ∷ bytes) =
    let P : Bool → Type 0 = λ b. (if b then [] else byte ∷ without_last_blanks (bytes ++ 32 ∷ []))
    ≡ (if list_all is_blank (byte ∷ bytes) then [] else byte ∷ without_last_blanks bytes) in
    let Q : List ℕ → Type 0 = λ rest. (if list_all is_blank (byte ∷ bytes) then [] else byte ∷ rest)
    ≡ (if list_all is_blank (byte ∷ bytes) then [] else byte ∷ without_last_blanks bytes) in
    subst P (sym (all_with_blank (byte ∷ bytes))) (subst Q (sym (blank_removed bytes)) refl)

-- a last byte that isn't a blank stays, and so do all bytes before it
pub kept : (bytes : List ℕ) (last : ℕ) → (last == 32) ≡ false
    → bytes ++ last ∷ [] ≡ without_last_blanks (bytes ++ last ∷ [])
unfolding without_last_blanks
kept [] last e =
    let P : Bool → Type 0 = λ b. last ∷ [] ≡ (if b then [] else last ∷ []) in subst P (sym (not_all [] last e)) refl
kept (byte ∷ bytes) last e =
    let P : Bool → Type 0 = λ b. byte ∷ (bytes ++ last ∷ [])
    ≡ (if b then [] else byte ∷ without_last_blanks (bytes ++ last ∷ [])) in
    let Q : List ℕ → Type 0 = λ rest. byte ∷ (bytes ++ last ∷ []) ≡ byte ∷ rest in
    subst P (sym (not_all (byte ∷ bytes) last e)) (subst Q (kept bytes last e) refl)

pub nothing_there : without_last_blanks [] ≡ []
unfolding without_last_blanks
nothing_there = refl

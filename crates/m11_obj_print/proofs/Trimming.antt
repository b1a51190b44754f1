-- The blanks that are removed from the end of a line, one after another.
use Rattle.std.proofs.Common.{◌≡◌, ◌==◌, ◌+◌, ◌≤◌, ◌<◌, ℕ, true, false, List, [], ◌∷◌, ◌++◌, append-nil, length, refl, sym, subst, arith}
use Rattle.std.proofs.lemmas.Bool.{false≢true}
use Rattle.std.proofs.lemmas.Bool.Decides.{nat_tests}
use Rattle.std.proofs.lemmas.List.{length-append}
use Rattle.m11_base.specs.Blanks.{without_last_blanks}
use Rattle.m11_base.proofs.LastBlanks.{blank_removed, kept, nothing_there}
use Rattle.m11_obj_print.specs.Lines.{line_of}

not_blank : (byte : ℕ) → (byte ≡ 32 → ⊥) → (byte == 32) ≡ false
not_blank byte other = grind (arith, nat_tests)

one_more : (rest : List ℕ) (last : ℕ) → length (rest ++ last ∷ []) ≡ length rest + 1
one_more rest last = length-append rest (last ∷ [])

-- after the last byte was removed, there is room for one byte
pub room_again : (all bytes rest : List ℕ) (last : ℕ) → bytes ≡ rest ++ last ∷ [] → length bytes ≤ length all → length all ≤ 175
    → length rest < 175
room_again all bytes rest last e le most =
    let P : List ℕ → Type 0 = λ bs. length bs ≤ length all in
    let Q : ℕ → Type 0 = λ n. n ≤ length all in
    let l = subst Q (one_more rest last) (subst P e le) in
    omega (arith, l, most)

pub shorter : (all bytes rest : List ℕ) (last : ℕ) → bytes ≡ rest ++ last ∷ [] → length bytes ≤ length all → length rest ≤ length all
shorter all bytes rest last e le =
    let P : List ℕ → Type 0 = λ bs. length bs ≤ length all in
    let Q : ℕ → Type 0 = λ n. n ≤ length all in
    let l = subst Q (one_more rest last) (subst P e le) in
    omega (arith, l)

-- removing a last blank doesn't change what remains without last blanks
pub after_blank : (all bytes rest : List ℕ) (last : ℕ) → bytes ≡ rest ++ last ∷ [] → (last ≡ 32)
    → without_last_blanks bytes ≡ without_last_blanks all → without_last_blanks rest ≡ without_last_blanks all
after_blank all bytes rest last e is i =
    let P : List ℕ → Type 0 = λ bs. without_last_blanks bs ≡ without_last_blanks all in
    let Q : ℕ → Type 0 = λ n. without_last_blanks (rest ++ n ∷ []) ≡ without_last_blanks all in
    let R : List ℕ → Type 0 = λ bs. bs ≡ without_last_blanks all in
    subst R (blank_removed rest) (subst Q is (subst P e i))

pub after_other : (all bytes rest put : List ℕ) (last : ℕ) → bytes ≡ rest ++ last ∷ [] → (last ≡ 32 → ⊥)
    → without_last_blanks bytes ≡ without_last_blanks all → put ≡ rest ++ last ∷ [] → put ≡ without_last_blanks all
after_other all bytes rest put last e other i p =
    let P : List ℕ → Type 0 = λ bs. without_last_blanks bs ≡ without_last_blanks all in
    let Q : List ℕ → Type 0 = λ bs. bs ≡ without_last_blanks all in
    let R : List ℕ → Type 0 = λ bs. bs ≡ without_last_blanks all in
    subst R (sym p) (subst Q (sym (kept rest last (not_blank last other))) (subst P e i))

none_left : (bytes : List ℕ) → (0 < length bytes → false ≡ true) → bytes ≡ []
none_left [] h = refl
none_left (byte ∷ bytes) h = absurd (false≢true (h (omega arith)))

pub after_none : (all bytes rest : List ℕ) → (0 < length bytes → false ≡ true) → bytes ≡ rest ++ []
    → without_last_blanks bytes ≡ without_last_blanks all → rest ≡ without_last_blanks all
after_none all bytes rest h e i =
    let P : List ℕ → Type 0 = λ bs. bytes ≡ bs in
    let Q : List ℕ → Type 0 = λ bs. without_last_blanks bs ≡ without_last_blanks all in
    let R : List ℕ → Type 0 = λ bs. bs ≡ without_last_blanks all in
    let same = subst P (append-nil rest) e in
    let S : List ℕ → Type 0 = λ bs. bs ≡ rest in
    subst R (subst S (none_left bytes h) same) (subst R nothing_there (subst Q (none_left bytes h) i))

-- equal texts have the same line
pub line_at : (text other line : List ℕ) → other ≡ text → line ≡ line_of other → line ≡ line_of text
line_at text other line e h = let P : List ℕ → Type 0 = λ bs. line ≡ line_of bs in subst P e h

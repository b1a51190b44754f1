-- A text with nested brackets is the inside of brackets, up to the `>` after it.
use Rattle.std.proofs.Common.{◌≡◌, ◌≢◌, ℕ, zero, suc, ◌+◌, true, List, ◌∷◌, ◌++◌, length, refl, sym, ap, ◌∙◌, arith}
use Rattle.std.proofs.lemmas.Bool.{ne_eqb}
use Rattle.std.proofs.lemmas.List.{append_assoc, length-append}
use Rattle.m11_scan.specs.declared.texts.Enclosed.{Enclosed}
use Rattle.m11_scan.specs.Texts.{bracketed, inside, longer}
use Rattle.m11_scan.specs.Grammar.{IsNested, Empty, Plain, Bracketed}

-- an enclosed text with n more characters in front
longer_by : ℕ → Enclosed → Enclosed
longer_by zero enclosed = enclosed
longer_by (suc count) enclosed = longer (longer_by count enclosed)

longer_by-add : (n m : ℕ) (enclosed : Enclosed) → longer_by (n + m) enclosed ≡ longer_by n (longer_by m enclosed)
unfolding longer_by
longer_by-add zero m enclosed = let e : 0 + m ≡ m = omega arith in ap (λ k. longer_by k enclosed) e
longer_by-add (suc n) m enclosed =
    let e : suc n + m ≡ suc (n + m) = omega arith in
    ap (λ k. longer_by k enclosed) e ∙ ap longer (longer_by-add n m enclosed)

-- a character that isn't a bracket makes the inside of the brackets longer by one
plain_inside : (depth byte : ℕ) (text : List ℕ) → byte ≢ 60 → byte ≢ 62
    → inside depth (byte ∷ text) ≡ longer (inside depth text)
plain_inside zero byte text a b = rw (ne_eqb byte 60 a, ne_eqb byte 62 b) refl
plain_inside (suc depth) byte text a b = rw (ne_eqb byte 60 a, ne_eqb byte 62 b) refl

opened : (depth : ℕ) (text : List ℕ) → inside depth (60 ∷ text) ≡ longer (inside (suc depth) text)
opened zero text = refl
opened (suc depth) text = refl

nested_inside : {text : List ℕ} → IsNested text → (depth : ℕ) (rest : List ℕ)
    → inside depth (text ++ rest) ≡ longer_by (length text) (inside depth rest)
unfolding longer_by
nested_inside Empty depth rest = refl
nested_inside (Plain byte text a b n) depth rest =
    plain_inside depth byte (text ++ rest) a b ∙ ap longer (nested_inside n depth rest)
nested_inside (Bracketed text more n m) depth rest =
    let first = nested_inside n (suc depth) (62 ∷ (more ++ rest)) in
    let second = nested_inside m depth rest in
    let size : length (text ++ 62 ∷ more) ≡ length text + suc (length more) = length-append text (62 ∷ more) in
    opened depth ((text ++ 62 ∷ more) ++ rest)
    ∙ ap (λ l. longer (inside (suc depth) l)) (append_assoc text (62 ∷ more) rest)
    ∙ ap longer (first ∙ ap (λ e. longer_by (length text) (longer e)) second
    ∙ sym (longer_by-add (length text) (suc (length more)) (inside depth rest))
    ∙ ap (λ k. longer_by k (inside depth rest)) (sym size))

length_of-longer_by : (n : ℕ) → longer_by n (record { length = 0; is_closed = true }) ≡ record { length = n; is_closed = true }
unfolding longer_by
length_of-longer_by zero = refl
length_of-longer_by (suc n) = ap longer (length_of-longer_by n)

pub nested_bracketed : (text rest : List ℕ) → IsNested text
    → bracketed (text ++ 62 ∷ rest) ≡ record { length = length text; is_closed = true }
nested_bracketed text rest nested = nested_inside nested 0 (62 ∷ rest) ∙ length_of-longer_by (length text)

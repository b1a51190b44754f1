-- Names made from texts, in which a character without a RADIX-50 code counts as a blank.
use Rattle.std.proofs.Common.{◌≡◌, ℕ, ◌+◌, ◌*◌, List, [], ◌∷◌, Option, Some, None, unwrap_or, refl, ap, ◌∙◌}
use Rattle.std.specs.Prelude.{take}
use Rattle.m11_base.specs.Rad50.{alphabet, code_of, name_of}
use Rattle.m11_asm_rules.specs.Exports.{name_of_codes}
use Rattle.m11_asm_rules.specs.Strings.{character_code, six_codes}
use Rattle.m11_asm_directives.specs.Codes.{coded, coded_at, coded_by}

blank_code : code_of 32 ≡ Some 0
unfolding code_of alphabet
blank_code = refl

coded_has : (character : ℕ) (code : Option ℕ) → code_of character ≡ code → code_of (coded_by character code) ≡ Some (unwrap_or code 0)
coded_has character (Some code) has = has
coded_has character None has = blank_code

code_coded : (character : ℕ) → code_of (coded character) ≡ Some (character_code character)
code_coded character = coded_has character (code_of character) refl

six : (a b c d e f : ℕ) (u v w x y z : ℕ) → code_of a ≡ Some u → code_of b ≡ Some v → code_of c ≡ Some w
    → code_of d ≡ Some x → code_of e ≡ Some y → code_of f ≡ Some z
    → name_of (a ∷ b ∷ c ∷ d ∷ e ∷ f ∷ []) ≡ Some (u * 1600 + v * 40 + w, x * 1600 + y * 40 + z)
six a b c d e f u v w x y z p q r s t o = rw p (rw q (rw r (rw s (rw t (rw o refl)))))

pub six_coded : (text : List ℕ)
    → name_of (coded_at (take 6 text) 0 ∷ coded_at (take 6 text) 1 ∷ coded_at (take 6 text) 2 ∷ coded_at (take 6 text) 3
    ∷ coded_at (take 6 text) 4 ∷ coded_at (take 6 text) 5 ∷ [])
    ≡ name_of_codes (six_codes text)
six_coded [] = six 32 32 32 32 32 32 0 0 0 0 0 0 blank_code blank_code blank_code blank_code blank_code blank_code
six_coded (a ∷ []) =
    six (coded a) 32 32 32 32 32 (character_code a) 0 0 0 0 0 (code_coded a) blank_code blank_code blank_code blank_code blank_code
six_coded (a ∷ b ∷ []) =
    six (coded a) (coded b) 32 32 32 32 (character_code a) (character_code b) 0 0 0 0 (code_coded a) (code_coded b) blank_code blank_code
    blank_code blank_code
six_coded (a ∷ b ∷ c ∷ []) =
    six (coded a) (coded b) (coded c) 32 32 32 (character_code a) (character_code b) (character_code c) 0 0 0 (code_coded a) (code_coded b)
    (code_coded c) blank_code blank_code blank_code
six_coded (a ∷ b ∷ c ∷ d ∷ []) =
    six (coded a) (coded b) (coded c) (coded d) 32 32 (character_code a) (character_code b) (character_code c) (character_code d) 0 0
    (code_coded a) (code_coded b) (code_coded c) (code_coded d) blank_code blank_code
six_coded (a ∷ b ∷ c ∷ d ∷ e ∷ []) =
    six (coded a) (coded b) (coded c) (coded d) (coded e) 32 (character_code a) (character_code b) (character_code c) (character_code d)
    (character_code e) 0 (code_coded a) (code_coded b) (code_coded c) (code_coded d) (code_coded e) blank_code
six_coded (a ∷ b ∷ c ∷ d ∷ e ∷ f ∷ rest) =
    six (coded a) (coded b) (coded c) (coded d) (coded e) (coded f) (character_code a) (character_code b) (character_code c)
    (character_code d) (character_code e) (character_code f) (code_coded a) (code_coded b) (code_coded c) (code_coded d) (code_coded e)
    (code_coded f)

pub six_placed : (text six : List ℕ) (a b c d e f : ℕ) → six ≡ take 6 text → a ≡ coded_at six 0 → b ≡ coded_at six 1
    → c ≡ coded_at six 2 → d ≡ coded_at six 3 → e ≡ coded_at six 4 → f ≡ coded_at six 5
    → name_of (a ∷ b ∷ c ∷ d ∷ e ∷ f ∷ []) ≡ name_of_codes (six_codes text)
six_placed text six a b c d e f s p q r t u v =
    ap (λ x. name_of (x ∷ b ∷ c ∷ d ∷ e ∷ f ∷ [])) p ∙ ap (λ x. name_of (coded_at six 0 ∷ x ∷ c ∷ d ∷ e ∷ f ∷ [])) q
    ∙ ap (λ x. name_of (coded_at six 0 ∷ coded_at six 1 ∷ x ∷ d ∷ e ∷ f ∷ [])) r
    ∙ ap (λ x. name_of (coded_at six 0 ∷ coded_at six 1 ∷ coded_at six 2 ∷ x ∷ e ∷ f ∷ [])) t
    ∙ ap (λ x. name_of (coded_at six 0 ∷ coded_at six 1 ∷ coded_at six 2 ∷ coded_at six 3 ∷ x ∷ f ∷ [])) u
    ∙ ap (λ x. name_of (coded_at six 0 ∷ coded_at six 1 ∷ coded_at six 2 ∷ coded_at six 3 ∷ coded_at six 4 ∷ x ∷ [])) v
    ∙ ap (λ (l : List ℕ). name_of (coded_at l 0 ∷ coded_at l 1 ∷ coded_at l 2 ∷ coded_at l 3 ∷ coded_at l 4 ∷ coded_at l 5 ∷ [])) s
    ∙ six_coded text

-- The bytes of a map, read one after another.
use Rattle.std.proofs.Common.{◌∙◌, ℕ, List, [], ◌∷◌, ◌++◌, append-nil, append_assoc, Option, Some, None, refl, sym, subst, ap}
use Rattle.m11_base.specs.Feed.{BeginsWith, GivesByte, GivesBytes, GivesEnd, HasBytes, Text}

pub none_given : (text : Option Text) → GivesBytes text text []
none_given None = tt
none_given (Some t) = (t.bytes, refl, refl)

pub one_given : (old middle new : Option Text) (bytes : List ℕ) (byte : ℕ) → GivesBytes old middle bytes → GivesByte middle new byte
    → GivesBytes old new (bytes ++ byte ∷ [])
one_given None middle new bytes byte h k = tt
one_given (Some t) middle new bytes byte h k =
    let P : Option Text → Type 0 = λ m. GivesByte m new byte in
    let more = subst P h.2 k in
    (more.0, h.1 ∙ ap (λ (x : List ℕ). bytes ++ x) more.1 ∙ sym (append_assoc bytes (byte ∷ []) more.0), more.2)

pub all_given : (old middle new : Option Text) (bytes : List ℕ) → GivesBytes old middle bytes → GivesEnd middle new → HasBytes old bytes
all_given None middle new bytes h k = tt
all_given (Some t) middle new bytes h k =
    let P : Option Text → Type 0 = λ m. GivesEnd m new in
    let end = subst P h.2 k in
    h.1 ∙ ap (λ (x : List ℕ). bytes ++ x) end.0.0 ∙ append-nil bytes

pub some_given : (old new : Option Text) (bytes : List ℕ) → GivesBytes old new bytes → BeginsWith old bytes
some_given None new bytes h = tt
some_given (Some t) new bytes h = (h.0, h.1)

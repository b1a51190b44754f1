-- A step that leaves known bytes as they were changes nothing for the step after it; two steps that add bytes are one that adds both.
use Rattle.std.proofs.Common.{◌≡◌, ℕ, List, ◌++◌, Option, Some, None, take, drop, ap, ◌∙◌, sym, append_assoc, zero, suc, refl}
use Rattle.std.proofs.lemmas.List.{take-append-drop}
use Rattle.m11_base.specs.Sink.{CountsAt}
use Rattle.std.specs.Io.KnownBytes.{Keeps, Appends, Consumes}

pub Keeps-Keeps : (a b c : Option (List ℕ)) → Keeps a b → Keeps b c → Keeps a c
Keeps-Keeps None b c h k = tt
Keeps-Keeps (Some x) None c h k = absurd h
Keeps-Keeps (Some x) (Some y) None h k = absurd k
Keeps-Keeps (Some x) (Some y) (Some z) h k = k ∙ h

pub Keeps-Consumes : (a b c : Option (List ℕ)) (bs : List ℕ) → Keeps a b → Consumes b c bs → Consumes a c bs
Keeps-Consumes None b c bs h k = tt
Keeps-Consumes (Some x) None c bs h k = absurd h
Keeps-Consumes (Some x) (Some y) None bs h k = absurd k
Keeps-Consumes (Some x) (Some y) (Some z) bs h k = sym h ∙ k

pub Keeps-Appends : (a b c : Option (List ℕ)) (bs : List ℕ) → Keeps a b → Appends b c bs → Appends a c bs
Keeps-Appends None b c bs h k = tt
Keeps-Appends (Some x) None c bs h k = absurd h
Keeps-Appends (Some x) (Some y) None bs h k = absurd k
Keeps-Appends (Some x) (Some y) (Some z) bs h k = k ∙ ap (λ (t : List ℕ). t ++ bs) h

pub Appends-Appends : (a b c : Option (List ℕ)) (bs cs : List ℕ) → Appends a b bs → Appends b c cs
    → Appends a c (bs ++ cs)
Appends-Appends None b c bs cs h k = tt
Appends-Appends (Some x) None c bs cs h k = absurd h
Appends-Appends (Some x) (Some y) None bs cs h k = absurd k
Appends-Appends (Some x) (Some y) (Some z) bs cs h k = k ∙ ap (λ (t : List ℕ). t ++ cs) h ∙ append_assoc x bs cs

-- if a prefix of the bytes was added, and then bytes from the front of the rest, a longer prefix was added
pub takes_more : (a b c : Option (List ℕ)) (bytes done rest left : List ℕ) (count : ℕ) → bytes ≡ done ++ rest
    → left ≡ drop count rest
    → Appends a b done → Appends b c (take count rest) → (x : List ℕ) × (bytes ≡ x ++ left) × Appends a c x
takes_more a b c bytes done rest left count whole left-is first second =
    let parts =
    whole ∙ ap (λ (t : List ℕ). done ++ t) (sym (take-append-drop count rest))
    ∙ sym (append_assoc done (take count rest) (drop count rest)) in (
      done ++ take count rest,
      parts ∙ ap (λ (t : List ℕ). (done ++ take count rest) ++ t) (sym left-is),
      Appends-Appends a b c done (take count rest) first second,
    )

-- a `put` that accepted some bytes isn't counted as a failure
pub taken_uncounted : (old new taken most : ℕ) → (taken ≡ 0 → ⊥) → CountsAt old new taken most → new ≡ old
taken_uncounted old new zero most some h = absurd (some refl)
taken_uncounted old new (suc taken) most some h = h

-- The steps of a read, and its result.
use Rattle.std.proofs.Common.{◌≡◌, ℕ, ◌<◌, Bool, true, false, cond, eqb, List, [], ◌∷◌, ◌++◌, take, get_or, zero, suc, Result, Ok, Err, refl, ap, inl, inr, ◌⊎◌}
use Rattle.std.specs.List.{AllByRecursion}
use Rattle.std.proofs.lemmas.Bool.Decides.{eqb_tells}
use Rattle.m11_obj_blocks.specs.Limited.{Read, ◌>>=◌}

abbrev pub Bytes : List ℕ → Type 0
Bytes xs = AllByRecursion (λ byte. byte < 256) xs

pub bytes_then : (xs ys : List ℕ) → Bytes xs → Bytes ys → Bytes (xs ++ ys)
bytes_then [] ys g h = h
bytes_then (x ∷ xs) ys g h = (g.0, bytes_then xs ys g.1 h)

pub bytes_after : (xs ys : List ℕ) → Bytes (xs ++ ys) → Bytes ys
bytes_after [] ys small = small
bytes_after (x ∷ xs) ys small = bytes_after xs ys small.1

pub bytes_known : (xs : List ℕ) → ((i : ℕ) → get_or xs i 0 < 256) → Bytes xs
bytes_known [] small = tt
bytes_known (x ∷ xs) small = (small 0, bytes_known xs (λ i. small (suc i)))

pub bytes_of_front : (count : ℕ) (xs : List ℕ) → Bytes xs → Bytes (take count xs)
bytes_of_front zero xs small = tt
bytes_of_front (suc count) [] small = tt
bytes_of_front (suc count) (x ∷ xs) small = (small.0, bytes_of_front count xs small.1)

pub same_eqb : (x : ℕ) → eqb x x ≡ true
same_eqb x = elim (eqb_tells x x) [ inl hit ↦ hit.0 | inr miss ↦ absurd (miss.1 refl) ]

pub bind_ok : {A B E : Type 0} (r : Result A E) (f : A → Result B E) (y : B) → (r >>= f) ≡ Ok y
    → (x : A) × (r ≡ Ok x) × (f x ≡ Ok y)
bind_ok (Ok x) f y e = (x, refl, e)
bind_ok (Err stop) f y e = absurd cc

pub bind_err : {A B E : Type 0} (r : Result A E) (f : A → Result B E) (stop : E) → (r >>= f) ≡ Err stop
    → (r ≡ Err stop) ⊎ ((x : A) × (r ≡ Ok x) × (f x ≡ Err stop))
bind_err {A} {B} {E} (Ok x) f stop e = inr (x, refl, e)
bind_err {A} {B} {E} (Err other) f stop e = inl (ap (λ (s : E). Err s) (let same : other ≡ stop = cc in same))

-- a conditional value is that of the branch which its test selects
pub chosen : {A : Type 0} (b : Bool) (x y z : A) → cond b x y ≡ z → ((b ≡ true) × (x ≡ z)) ⊎ ((b ≡ false) × (y ≡ z))
chosen true x y z e = inl (refl, e)
chosen false x y z e = inr (refl, e)

abbrev whole : {Fault A : Type 0} → A × List ℕ → Read Fault A
whole x = Ok x

abbrev pub done : {Fault A : Type 0} → A → List ℕ → Read Fault A
done x rest = Ok (x, rest)

ok_is : {Fault A : Type 0} (x y : A × List ℕ) → whole {Fault = Fault} x ≡ whole y → x ≡ y
ok_is x y e = cc

-- if two results of a read are equal, so are the bytes after their values
pub rest_is : {Fault A : Type 0} (x y : A) (xs ys : List ℕ) → done {Fault = Fault} x xs ≡ done y ys → xs ≡ ys
rest_is {Fault} {A} x y xs ys e = ap (λ (p : A × List ℕ). p.1) (ok_is (x, xs) (y, ys) e)

pub value_is : {Fault A : Type 0} (x y : A) (xs ys : List ℕ) → done {Fault = Fault} x xs ≡ done y ys → x ≡ y
value_is {Fault} {A} x y xs ys e = ap (λ (p : A × List ℕ). p.0) (ok_is (x, xs) (y, ys) e)

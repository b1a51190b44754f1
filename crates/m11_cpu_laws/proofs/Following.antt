-- Two dialogues with common exchanges: whenever the first yields a value, a prefix of its exchanges leads the second to a value.
use Rattle.std.proofs.Common.{◌≡◌, List, [], ◌++◌, refl, sym, ◌∙◌, ap, append_assoc, Result, Ok, Err}
use Rattle.m11_cpu_machine.specs.Acts.{Act, unless_aborted, ◌>>=◌}
use Rattle.m11_cpu_machine.specs.Dialogue.{after, Comes, Dialogue, Exchange, Leads}
use Rattle.m11_cpu_laws.specs.Exchanges.{ComesWithin}
use Rattle.m11_cpu_machine.specs.declared.abort.Abort.{Abort}
use Rattle.m11_cpu_machine.specs.declared.machine.Machine.{Machine}
use Rattle.m11_cpu_machine.proofs.Dialogues.{leads_after}
use Rattle.m11_cpu_laws.proofs.Parts.{Always, at_comes, Keeps, parts}

pub record Found {B : Type 0} (p : Dialogue B) (es : List Exchange) (P : B → Type 0) : Type 0 where
  pub value : B
  pub within : ComesWithin p es value
  pub holds : P value

pub record Follows {A B : Type 0} (d : Dialogue A) (p : Dialogue B) (R : B → A → Type 0) : Type 0 where
  pub found : (es : List Exchange) (y : A) → Leads d es y → Found p es (λ z. R z y)

at_start : {B : Type 0} (z : B) (es : List Exchange) → ComesWithin (Comes z) es z
unfolding Leads
at_start z es = record { first = []; rest = es; joined = refl; leads = refl }

pub follows_now : {A B : Type 0} {d : Dialogue A} {z : B} {R : B → A → Type 0} → Always d (λ y. R z y)
    → Follows d (Comes z) R
follows_now {z = z} a = record { found = λ es y h. record { value = z; within = at_start z es; holds = a.each es y h } }

within_after : {A B : Type 0} (d : Dialogue A) (next : A → Dialogue B) (es : List Exchange) (x : A) (z : B)
    (w : ComesWithin d es x) → ComesWithin (next x) w.rest z → ComesWithin (after d next) es z
within_after d next es x z w v = record {
  first = w.first ++ v.first;
  rest = v.rest;
  joined = w.joined ∙ ap (λ (xs : List Exchange). w.first ++ xs) v.joined ∙ sym (append_assoc w.first v.first v.rest);
  leads = leads_after d w.first v.first x next z w.leads v.leads;
}

pub within_more : {B : Type 0} (p : Dialogue B) (es fs gs : List Exchange) (z : B) → es ≡ fs ++ gs
    → ComesWithin p fs z
    → ComesWithin p es z
within_more p es fs gs z e w = record {
  first = w.first;
  rest = w.rest ++ gs;
  joined = e ∙ ap (λ (xs : List Exchange). xs ++ gs) w.joined ∙ append_assoc w.first w.rest gs;
  leads = w.leads;
}

-- if two dialogues begin with the same part, and the rest of one follows the rest of the other, the whole does so too
follows_after : {A B C : Type 0} (d : Dialogue A) (next : A → Dialogue B) (next' : A → Dialogue C) (P : A → Type 0)
    (R : C → B → Type 0) → Always d P → ((x : A) → P x → Follows (next x) (next' x) R)
    → Follows (after d next) (after d next') R
follows_after d next next' P R a k = record {
  found = λ es y h.
      let p = parts d next es y h in
      let f = (k p.value (a.each p.within.first p.value p.within.leads)).found p.within.rest y p.goes_on in
      record {
        value = f.value;
        within = within_after d next' es p.value f.value p.within f.within;
        holds = f.holds;
      };
}

bound_follows : {A B C : Type 0} (next : A → Act B) (next' : A → Act C) (I : Machine → Type 0)
    (R : Result C Abort × Machine → Result B Abort × Machine → Type 0)
    → ((e : Abort) (n : Machine) → I n → R (Err e, n) (Err e, n))
    → ((x : A) (n : Machine) → I n → Follows (next x n) (next' x n) R)
    → (r : Result A Abort) (n : Machine) → I n → Follows (unless_aborted next r n) (unless_aborted next' r n) R
bound_follows next next' I R err ok (Ok x) n i = ok x n i
bound_follows next next' I R err ok (Err e) n i = follows_now (at_comes (err e n i))

pub follows_bind : {A B C : Type 0} (act : Act A) (next : A → Act B) (next' : A → Act C) (m : Machine)
    (I : Machine → Type 0) (R : Result C Abort × Machine → Result B Abort × Machine → Type 0) → Keeps I (act m)
    → ((e : Abort) (n : Machine) → I n → R (Err e, n) (Err e, n))
    → ((x : A) (n : Machine) → I n → Follows (next x n) (next' x n) R)
    → Follows ((act >>= next) m) ((act >>= next') m) R
unfolding ◌>>=◌
follows_bind act next next' m I R a err ok =
    follows_after (act m) (λ came. unless_aborted next came.0 came.1) (λ came. unless_aborted next' came.0 came.1)
    (λ y. I y.1) R a (λ came i. bound_follows next next' I R err ok came.0 came.1 i)

-- if a dialogue follows another, it still does with a further part after it whose values are related to the other's value
pub follows_then : {A B C : Type 0} (d : Dialogue A) (next : A → Dialogue B) (p : Dialogue C) (S : C → A → Type 0)
    (R : C → B → Type 0) → Follows d p S → ((z : C) (x : A) → S z x → Always (next x) (λ y. R z y))
    → Follows (after d next) p R
follows_then d next p S R f k = record {
  found = λ es y h.
      let q = parts d next es y h in
      let g = f.found q.within.first q.value q.within.leads in
      record {
        value = g.value;
        within = within_more p es q.within.first q.within.rest g.value q.within.joined g.within;
        holds = (k g.value q.value g.holds).each q.within.rest y q.goes_on;
      };
}

-- Properties of every path through a dialogue, part by part.
use Rattle.std.proofs.Common.{Bool, true, false, cond, List, [], ◌∷◌, refl, sym, subst, ap, Result, Ok, Err, ℕ}
use Rattle.m11_cpu_machine.specs.Acts.{Act, unless_aborted, ◌>>=◌}
use Rattle.m11_cpu_machine.specs.Dialogue.{after, Asked, Asks, Comes, Dialogue, Exchange, Leads, Reply, Sends, Sent}
use Rattle.m11_cpu_laws.specs.Exchanges.{ComesWithin}
use Rattle.m11_cpu_machine.specs.declared.abort.Abort.{Abort}
use Rattle.m11_cpu_machine.specs.declared.machine.Machine.{Machine}
use Rattle.m11_cpu_laws.proofs.StopsLast.{at_once}

-- ---- a dialogue and the one after it

pub record Parts {A B : Type 0} (d : Dialogue A) (next : A → Dialogue B) (es : List Exchange) (y : B) : Type 0 where
  pub value : A
  pub within : ComesWithin d es value
  pub goes_on : Leads (next value) within.rest y

with_first : {A B : Type 0} (d d' : Dialogue A) (next : A → Dialogue B) (e : Exchange) (es : List Exchange) (y : B)
    → ((xs : List Exchange) (x : A) → Leads d' xs x → Leads d (e ∷ xs) x) → Parts d' next es y
    → Parts d next (e ∷ es) y
with_first d d' next e es y lead p = record {
  value = p.value;
  within = record {
    first = e ∷ p.within.first;
    rest = p.within.rest;
    joined = ap (λ (xs : List Exchange). e ∷ xs) p.within.joined;
    leads = lead p.within.first p.value p.within.leads;
  };
  goes_on = p.goes_on;
}

pub parts : {A B : Type 0} (d : Dialogue A) (next : A → Dialogue B) (es : List Exchange) (y : B)
    → Leads (after d next) es y → Parts d next es y
unfolding Leads
parts (Comes x) next es y h =
    record { value = x; within = record { first = []; rest = es; joined = refl; leads = refl }; goes_on = h }
parts (Asks by) next [] y h = absurd h
parts (Asks by) next (Asked reply ∷ es) y h =
    with_first (Asks by) (by reply) next (Asked reply) es y (λ xs x l. l) (parts (by reply) next es y h)
parts (Asks by) next (Sent byte was_taken ∷ es) y h = absurd h
parts (Sends byte by) next [] y h = absurd h
parts (Sends byte by) next (Asked reply ∷ es) y h = absurd h
parts (Sends byte by) next (Sent sent was_taken ∷ es) y h =
    with_first (Sends byte by) (by was_taken) next (Sent sent was_taken) es y (λ xs x l. (h.0, l))
    (parts (by was_taken) next es y h.1)

-- ---- properties of each value that a dialogue yields

pub record Always {A : Type 0} (d : Dialogue A) (P : A → Type 0) : Type 0 where
  pub each : (es : List Exchange) (y : A) → Leads d es y → P y

pub at_comes : {A : Type 0} {x : A} {P : A → Type 0} → P x → Always (Comes x) P
at_comes {A = A} {x = x} {P = P} p = record { each = λ es y h. subst P (sym (at_once x y es h)) p }

asked_each : {A : Type 0} (by : Reply → Dialogue A) (P : A → Type 0) → ((reply : Reply) → Always (by reply) P)
    → (es : List Exchange) (y : A) → Leads (Asks by) es y → P y
unfolding Leads
asked_each by P k [] y h = absurd h
asked_each by P k (Asked reply ∷ es) y h = (k reply).each es y h
asked_each by P k (Sent byte was_taken ∷ es) y h = absurd h

pub at_asks : {A : Type 0} {by : Reply → Dialogue A} {P : A → Type 0} → ((reply : Reply) → Always (by reply) P)
    → Always (Asks by) P
at_asks {by = by} {P = P} k = record { each = asked_each by P k }

sent_each : {A : Type 0} (byte : ℕ) (by : Bool → Dialogue A) (P : A → Type 0) → ((taken : Bool) → Always (by taken) P)
    → (es : List Exchange) (y : A) → Leads (Sends byte by) es y → P y
unfolding Leads
sent_each byte by P k [] y h = absurd h
sent_each byte by P k (Asked reply ∷ es) y h = absurd h
sent_each byte by P k (Sent sent was_taken ∷ es) y h = (k was_taken).each es y h.1

pub at_sends : {A : Type 0} {byte : ℕ} {by : Bool → Dialogue A} {P : A → Type 0}
    → ((taken : Bool) → Always (by taken) P)
    → Always (Sends byte by) P
at_sends {byte = byte} {by = by} {P = P} k = record { each = sent_each byte by P k }

pub at_cond : {A : Type 0} (test : Bool) {a b : Dialogue A} {P : A → Type 0} → Always a P → Always b P
    → Always (cond test a b) P
at_cond true p q = p
at_cond false p q = q

pub at_map : {A : Type 0} {d : Dialogue A} {P Q : A → Type 0} → Always d P → ((y : A) → P y → Q y) → Always d Q
at_map a k = record { each = λ es y h. k y (a.each es y h) }

pub at_after : {A B : Type 0} (d : Dialogue A) (next : A → Dialogue B) (P : A → Type 0) (Q : B → Type 0) → Always d P
    → ((x : A) → P x → Always (next x) Q) → Always (after d next) Q
at_after d next P Q a k = record {
  each = λ es y h.
      let p = parts d next es y h in
      (k p.value (a.each p.within.first p.value p.within.leads)).each p.within.rest y p.goes_on;
}

bound : {A B : Type 0} (next : A → Act B) (P : Result A Abort × Machine → Type 0)
    (Q : Result B Abort × Machine → Type 0)
    → ((e : Abort) (n : Machine) → P (Err e, n) → Q (Err e, n))
    → ((x : A) (n : Machine) → P (Ok x, n) → Always (next x n) Q)
    → (r : Result A Abort) (n : Machine) → P (r, n) → Always (unless_aborted next r n) Q
bound next P Q err ok (Ok x) n p = ok x n p
bound next P Q err ok (Err e) n p = at_comes (err e n p)

pub at_bind : {A B : Type 0} (act : Act A) (next : A → Act B) (m : Machine) (P : Result A Abort × Machine → Type 0)
    (Q : Result B Abort × Machine → Type 0) → Always (act m) P
    → ((e : Abort) (n : Machine) → P (Err e, n) → Q (Err e, n))
    → ((x : A) (n : Machine) → P (Ok x, n) → Always (next x n) Q) → Always ((act >>= next) m) Q
unfolding ◌>>=◌
at_bind act next m P Q a err ok =
    at_after (act m) (λ came. unless_aborted next came.0 came.1) P Q a (λ came p. bound next P Q err ok came.0 came.1 p)

-- ---- properties of a machine that stay

abbrev pub Keeps : {A : Type 0} → (Machine → Type 0) → Dialogue (Result A Abort × Machine) → Type 0
Keeps {A = A} I d = Always {A = Result A Abort × Machine} d (λ y. I y.1)

pub keeps_bind : {A B : Type 0} (I : Machine → Type 0) (act : Act A) (next : A → Act B) (m : Machine)
    → Keeps I (act m)
    → ((x : A) (n : Machine) → I n → Keeps I (next x n)) → Keeps I ((act >>= next) m)
keeps_bind I act next m a ok = at_bind act next m (λ y. I y.1) (λ y. I y.1) a (λ e n i. i) ok

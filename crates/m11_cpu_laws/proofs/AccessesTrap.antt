-- The accesses at which an instruction traps through 4.
use Rattle.std.proofs.Common.{◌≡◌, ℕ, Bool, true, false, List, [], ◌∷◌, ◌++◌, append-nil, Result, Ok, Err, refl, sym, ◌∙◌, subst, ap, inl, inr, true≢false}
use Rattle.std.specs.Prelude.{is_ok, ◌⊎◌}
use Rattle.m11_base.specs.declared.operand.Size.{Size}
use Rattle.m11_cpu_machine.specs.Access.{load_byte, load_word, store_byte, store_word}
use Rattle.m11_cpu_machine.specs.Acts.{Act, unless_aborted, ◌>>=◌}
use Rattle.m11_cpu_machine.specs.Dialogue.{Comes, Dialogue, Exchange, Leads}
use Rattle.m11_cpu_machine.specs.declared.abort.Abort.{Abort}
use Rattle.m11_cpu_machine.specs.declared.abort.Abort.TheVariants.{Traps}
use Rattle.m11_cpu_machine.specs.declared.abort.Vector.TheVariants.{BusError}
use Rattle.m11_cpu_machine.specs.declared.machine.Machine.{Machine}
use Rattle.m11_cpu_laws.specs.Accesses.{Access, after_act, EndsAt4, FindsNothing, is_nothing, SomeFindsNothing, TrapsAtThese}
use Rattle.m11_cpu_laws.specs.Addresses.{no_byte_at, no_word_at, traps_through_4}
use Rattle.m11_cpu_laws.proofs.AddressesTrap.{load_byte_bad, load_byte_traps, load_word_bad, load_word_traps, store_byte_bad, store_byte_traps, store_word_bad, store_word_traps}
use Rattle.m11_cpu_laws.proofs.Parts.{parts}
use Rattle.m11_cpu_laws.proofs.StatusStored.{bind_then}
use Rattle.m11_cpu_laws.proofs.StepsInMemory.{leads_then}
use Rattle.m11_cpu_laws.proofs.StopsLast.{at_once}

-- ---- dialogues without exchanges

leads_now : {A : Type 0} (x : A) → Leads (Comes x) [] x
unfolding Leads
leads_now x = refl

none_left_over : {A : Type 0} (x y : A) (es : List Exchange) → Leads (Comes x) es y → es ≡ []
unfolding Leads
none_left_over x y [] h = refl
none_left_over x y (e ∷ es) h = absurd h

abbrev pub NeverAt4 : {A : Type 0} → Dialogue (Result A Abort × Machine) → Type 0
NeverAt4 {A = A} d = (es : List Exchange) (left : Machine) → EndsAt4 {A = A} d es left → ⊥

abbrev at_4 : {A : Type 0} → Result A Abort × Machine → Bool
at_4 y = traps_through_4 y.0

pub comes_never : {A : Type 0} (came : Result A Abort) (n : Machine) → traps_through_4 came ≡ false
    → NeverAt4 {A = A} (Comes (came, n))
comes_never {A = A} came n e es left h =
    let from : Result A Abort × Machine = (came, n) in
    let to : Result A Abort × Machine = (Err (Traps BusError), left) in
    true≢false (ap at_4 (at_once from to es h) ∙ e)

-- ---- lists of accesses

some_before : (xs ys : List Access) (m : Machine) (es : List Exchange) → SomeFindsNothing xs m es
    → SomeFindsNothing (xs ++ ys) m es
some_before [] ys m es s = absurd s
some_before (x ∷ xs) ys m es (inl f) = inl f
some_before (x ∷ xs) ys m es (inr s) = inr (some_before xs ys m es s)

some_after : (xs ys : List Access) (m : Machine) (es : List Exchange) → SomeFindsNothing ys m es
    → SomeFindsNothing (xs ++ ys) m es
some_after [] ys m es s = s
some_after (x ∷ xs) ys m es s = inr (some_after xs ys m es s)

abbrev Apart : List Access → List Access → Machine → List Exchange → Type 0
Apart xs ys m es = SomeFindsNothing xs m es ⊎ SomeFindsNothing ys m es

apart_more : (x : Access) (xs ys : List Access) (m : Machine) (es : List Exchange) → Apart xs ys m es
    → Apart (x ∷ xs) ys m es
apart_more x xs ys m es (inl s) = inl (inr s)
apart_more x xs ys m es (inr s) = inr s

some_apart : (xs ys : List Access) (m : Machine) (es : List Exchange) → SomeFindsNothing (xs ++ ys) m es
    → Apart xs ys m es
some_apart [] ys m es s = inr s
some_apart (x ∷ xs) ys m es (inl f) = inl (inl f)
some_apart (x ∷ xs) ys m es (inr s) = apart_more x xs ys m es (some_apart xs ys m es s)

-- ---- one act after another

record Came {A B : Type 0} (act : Act A) (next : A → Act B) (m : Machine) (es : List Exchange)
    (y : Result B Abort × Machine) : Type 0 where
  value : A
  machine : Machine
  first : List Exchange
  rest : List Exchange
  joined : es ≡ first ++ rest
  leads : Leads (act m) first (Ok value, machine)
  goes_on : Leads (next value machine) rest y

record Aborted {A B : Type 0} (act : Act A) (m : Machine) (es : List Exchange) (y : Result B Abort × Machine) : Type 0
  where
    abort : Abort
    machine : Machine
    leads : Leads (act m) es (Err abort, machine)
    same : y ≡ (Err abort, machine)

split_value : {A B : Type 0} (act : Act A) (next : A → Act B) (m : Machine) (es first rest : List Exchange)
    (y : Result B Abort × Machine) (came : Result A Abort) (n : Machine) → es ≡ first ++ rest
    → Leads (act m) first (came, n) → Leads (unless_aborted next came n) rest y
    → Aborted act m es y ⊎ Came act next m es y
split_value act next m es first rest y (Ok x) n e h k =
    inr (record { value = x; machine = n; first = first; rest = rest; joined = e; leads = h; goes_on = k })
split_value {A = A} {B = B} act next m es first rest y (Err abort) n e h k =
    let over : Result B Abort × Machine = (Err abort, n) in
    let P : List Exchange → Type 0 = λ fs. Leads (act m) fs (Err abort, n) in
    let all : es ≡ first = e ∙ ap (λ (fs : List Exchange). first ++ fs) (none_left_over over y rest k)
    ∙ append-nil first in
    inl (record { abort = abort; machine = n; leads = subst P (sym all) h; same = at_once over y rest k })

split : {A B : Type 0} (act : Act A) (next : A → Act B) (m : Machine) (es : List Exchange)
    (y : Result B Abort × Machine) → Leads ((act >>= next) m) es y → Aborted act m es y ⊎ Came act next m es y
unfolding ◌>>=◌
split act next m es y h =
    let p = parts (act m) (λ came. unless_aborted next came.0 came.1) es y h in
    split_value act next m es p.within.first p.within.rest y p.value.0 p.value.1 p.within.joined p.within.leads p.goes_on

aborts_too : {A B : Type 0} (act : Act A) (next : A → Act B) (m left : Machine) (es : List Exchange)
    → EndsAt4 {A = A} (act m) es left → EndsAt4 {A = B} ((act >>= next) m) es left
unfolding ◌>>=◌
aborts_too act next m left es h =
    leads_then (act m) (λ came. unless_aborted next came.0 came.1) es (Err (Traps BusError), left)
    (Err (Traps BusError), left) h refl

abbrev abort_of : {A : Type 0} → Result A Abort → Abort
abort_of (Ok x) = Traps BusError
abort_of (Err abort) = abort

-- if two acts in sequence trap through 4 in the first, the first act does so
first_part : {A B : Type 0} (act : Act A) (m left : Machine) (es : List Exchange)
    → Aborted {A = A} {B = B} act m es (Err (Traps BusError), left) → EndsAt4 {A = A} (act m) es left
first_part {A = A} {B = B} act m left es a =
    let e : Traps BusError ≡ a.abort = ap (λ (y : Result B Abort × Machine). abort_of y.0) a.same in
    let f : left ≡ a.machine = ap (λ (y : Result B Abort × Machine). y.1) a.same in
    let P : Abort → Type 0 = λ abort. Leads (act m) es (Err abort, a.machine) in
    let Q : Machine → Type 0 = λ n. Leads (act m) es (Err (Traps BusError), n) in
    subst Q (sym f) (subst P (sym e) a.leads)

-- the act yields a value after some of these exchanges, and P holds for the value, the machine then, and the rest of the exchanges
record Shifted {A : Type 0} (act : Act A) (P : A → Machine → List Exchange → Type 0) (m : Machine)
    (es : List Exchange) : Type 0 where
  value : A
  machine : Machine
  first : List Exchange
  rest : List Exchange
  joined : es ≡ first ++ rest
  leads : Leads (act m) first (Ok value, machine)
  holds : P value machine rest

record Shifts {A : Type 0} (act : Act A) (more : List Access) (P : A → Machine → List Exchange → Type 0) (m : Machine) : Type 0
  where
    to : (first rest : List Exchange) (x : A) (n : Machine) → Leads (act m) first (Ok x, n) → P x n rest
        → SomeFindsNothing more m (first ++ rest)
    from : (es : List Exchange) → SomeFindsNothing more m es → Shifted act P m es

record TrapsBy {B : Type 0} (d : Dialogue (Result B Abort × Machine)) (P : List Exchange → Type 0) : Type 0 where
  only : (es : List Exchange) (left : Machine) → EndsAt4 {A = B} d es left → P es
  each : (es : List Exchange) → P es → (left : Machine) × EndsAt4 {A = B} d es left

bind_only : {A B : Type 0} (act : Act A) (next : A → Act B) (m left : Machine) (xs more : List Access)
    (P : A → Machine → List Exchange → Type 0) (es : List Exchange) → Shifts act more P m
    → TrapsAtThese {A = A} (act m) xs m
    → ((x : A) (n : Machine) (first : List Exchange) → Leads (act m) first (Ok x, n)
    → TrapsBy {B = B} (next x n) (λ fs. P x n fs))
    → Aborted {A = A} {B = B} act m es (Err (Traps BusError), left)
    ⊎ Came act next m es (Err (Traps BusError), left)
    → SomeFindsNothing (xs ++ more) m es
bind_only act next m left xs more P es s t k (inl a) =
    some_before xs more m es (t.only es left (first_part act m left es a))
bind_only act next m left xs more P es s t k (inr c) =
    let Q : List Exchange → Type 0 = λ fs. SomeFindsNothing more m fs in
    some_after xs more m es (subst Q (sym c.joined)
    (s.to c.first c.rest c.value c.machine c.leads
    ((k c.value c.machine c.first c.leads).only c.rest left c.goes_on)))

bind_each : {A B : Type 0} (act : Act A) (next : A → Act B) (m : Machine) (xs more : List Access)
    (P : A → Machine → List Exchange → Type 0) (es : List Exchange) → Shifts act more P m
    → TrapsAtThese {A = A} (act m) xs m
    → ((x : A) (n : Machine) (first : List Exchange) → Leads (act m) first (Ok x, n)
    → TrapsBy {B = B} (next x n) (λ fs. P x n fs))
    → SomeFindsNothing xs m es ⊎ SomeFindsNothing more m es
    → (left : Machine) × EndsAt4 {A = B} ((act >>= next) m) es left
bind_each act next m xs more P es s t k (inl some) =
    let a = t.each es some in (a.0, aborts_too act next m a.0 es a.1)
bind_each {B = B} act next m xs more P es s t k (inr some) =
    let c = s.from es some in
    let a = (k c.value c.machine c.first c.leads).each c.rest c.holds in
    let Q : List Exchange → Type 0 = λ fs. EndsAt4 {A = B} ((act >>= next) m) fs a.0 in (
      a.0,
      subst Q (sym c.joined)
          (bind_then act next m c.machine c.first c.rest c.value (Err (Traps BusError), a.0) c.leads a.1),
    )

bind_traps : {A B : Type 0} (act : Act A) (next : A → Act B) (m : Machine) (xs more : List Access)
    (P : A → Machine → List Exchange → Type 0) → Shifts act more P m → TrapsAtThese {A = A} (act m) xs m
    → ((x : A) (n : Machine) (first : List Exchange) → Leads (act m) first (Ok x, n)
    → TrapsBy {B = B} (next x n) (λ fs. P x n fs))
    → TrapsAtThese {A = B} ((act >>= next) m) (xs ++ more) m
bind_traps act next m xs more P s t k = record {
  only = λ es left h.
      bind_only act next m left xs more P es s t k (split act next m es (Err (Traps BusError), left) h);
  each = λ es some. bind_each act next m xs more P es s t k (some_apart xs more m es some);
}

-- if one of the accesses after an act finds nothing, it also does so as an access with that act before it
constant_to : {A : Type 0} (act : Act A) (ys : List Access) (m n : Machine) (first rest : List Exchange) (x : A)
    → Leads (act m) first (Ok x, n) → SomeFindsNothing ys n rest → SomeFindsNothing (after_act act ys) m (first ++ rest)
constant_to act [] m n first rest x h s = absurd s
constant_to act (y ∷ ys) m n first rest x h (inl f) =
    inl (record {
      address = f.address;
      before = f.before;
      leads_here = bind_then act (λ x. y.address) m n first rest x (Ok f.address, f.before) h f.leads_here;
      nothing = f.nothing;
    })
constant_to act (y ∷ ys) m n first rest x h (inr s) = inr (constant_to act ys m n first rest x h s)

abbrev pub is_reached : Result ℕ Abort × Machine → Bool
is_reached y = is_ok y.0

-- if two acts in sequence yield an address, the first of them has yielded a value
reached : {A : Type 0} (act : Act A) (address : A → Act ℕ) (m before : Machine) (es : List Exchange) (a : ℕ)
    → Aborted {A = A} {B = ℕ} act m es (Ok a, before) ⊎ Came act address m es (Ok a, before)
    → Came act address m es (Ok a, before)
reached act address m before es a (inl aborted) = absurd (true≢false (ap is_reached aborted.same))
reached act address m before es a (inr came) = came

abbrev FindsAfter : {A : Type 0} → Size → (A → Act ℕ) → A → Machine → List Exchange → Type 0
FindsAfter size address x n es = SomeFindsNothing (record { size = size; address = address x } ∷ []) n es

found_after : {A : Type 0} (act : Act A) (size : Size) (address : A → Act ℕ) (m : Machine) (es : List Exchange)
    → FindsNothing (record { size = size; address = act >>= address }) m es
    → Shifted act (λ x n fs. FindsNothing (record { size = size; address = address x }) n fs) m es
found_after act size address m es f =
    let c = reached act address m f.before es f.address
    (split act address m es (Ok f.address, f.before) f.leads_here) in
    record {
      value = c.value;
      machine = c.machine;
      first = c.first;
      rest = c.rest;
      joined = c.joined;
      leads = c.leads;
      holds = record { address = f.address; before = f.before; leads_here = c.goes_on; nothing = f.nothing };
    }

shifted_map : {A : Type 0} (act : Act A) (P Q : A → Machine → List Exchange → Type 0) (m : Machine)
    (es : List Exchange) → ((x : A) (n : Machine) (fs : List Exchange) → P x n fs → Q x n fs) → Shifted act P m es
    → Shifted act Q m es
shifted_map act P Q m es k s = record {
  value = s.value;
  machine = s.machine;
  first = s.first;
  rest = s.rest;
  joined = s.joined;
  leads = s.leads;
  holds = k s.value s.machine s.rest s.holds;
}

constant_from : {A : Type 0} (act : Act A) (ys : List Access) (m : Machine) (es : List Exchange)
    → SomeFindsNothing (after_act act ys) m es → Shifted act (λ x n fs. SomeFindsNothing ys n fs) m es
constant_from act [] m es s = absurd s
constant_from {A = A} act (y ∷ ys) m es (inl f) =
    shifted_map act _ (λ x n fs. SomeFindsNothing (y ∷ ys) n fs) m es (λ x n fs g. inl g)
    (found_after act y.size (λ (x : A). y.address) m es f)
constant_from act (y ∷ ys) m es (inr s) =
    shifted_map act _ (λ x n fs. SomeFindsNothing (y ∷ ys) n fs) m es (λ x n fs g. inr g) (constant_from act ys m es s)

pub then_accesses : {A B : Type 0} (act : Act A) (next : A → Act B) (m : Machine) (xs ys : List Access)
    → TrapsAtThese {A = A} (act m) xs m
    → ((x : A) (n : Machine) → TrapsAtThese {A = B} (next x n) ys n)
    → TrapsAtThese {A = B} ((act >>= next) m) (xs ++ after_act act ys) m
then_accesses act next m xs ys t k =
    bind_traps act next m xs (after_act act ys) (λ x n fs. SomeFindsNothing ys n fs) (record {
      to = λ first rest x n h s. constant_to act ys m n first rest x h s;
      from = λ es s. constant_from act ys m es s;
    }) t (λ x n first h. record { only = (k x n).only; each = (k x n).each })

-- the same for one access whose address depends on the value of the act
through_to : {A : Type 0} (act : Act A) (size : Size) (address : A → Act ℕ) (m n : Machine)
    (first rest : List Exchange) (x : A) → Leads (act m) first (Ok x, n) → FindsAfter size address x n rest
    → SomeFindsNothing (record { size = size; address = act >>= address } ∷ []) m (first ++ rest)
through_to act size address m n first rest x h (inl f) =
    inl (record {
      address = f.address;
      before = f.before;
      leads_here = bind_then act address m n first rest x (Ok f.address, f.before) h f.leads_here;
      nothing = f.nothing;
    })
through_to act size address m n first rest x h (inr s) = absurd s

through_from : {A : Type 0} (act : Act A) (size : Size) (address : A → Act ℕ) (m : Machine) (es : List Exchange)
    → SomeFindsNothing (record { size = size; address = act >>= address } ∷ []) m es
    → Shifted act (λ x n fs. FindsAfter size address x n fs) m es
through_from act size address m es (inl f) =
    shifted_map act _ (λ x n fs. FindsAfter size address x n fs) m es (λ x n fs g. inl g)
    (found_after act size address m es f)
through_from act size address m es (inr s) = absurd s

pub through_access : {A B : Type 0} (act : Act A) (next : A → Act B) (m : Machine) (xs : List Access) (size : Size)
    (address : A → Act ℕ) → TrapsAtThese {A = A} (act m) xs m
    → ((x : A) (n : Machine) → TrapsAtThese {A = B} (next x n) (record { size = size; address = address x } ∷ []) n)
    → TrapsAtThese {A = B} ((act >>= next) m) (xs ++ record { size = size; address = act >>= address } ∷ []) m
through_access act next m xs size address t k =
    bind_traps act next m xs (record { size = size; address = act >>= address } ∷ [])
    (λ x n fs. FindsAfter size address x n fs) (record {
      to = λ first rest x n h s. through_to act size address m n first rest x h s;
      from = λ es s. through_from act size address m es s;
    }) t (λ x n first h. record { only = (k x n).only; each = (k x n).each })

-- if the second act never traps through 4, the two in sequence do so only at an access of the first
quiet_only : {A B : Type 0} (act : Act A) (next : A → Act B) (n m left : Machine) (xs : List Access)
    (es : List Exchange) → TrapsAtThese {A = A} (act n) xs m
    → ((x : A) (o : Machine) (first : List Exchange) → Leads (act n) first (Ok x, o) → NeverAt4 {A = B} (next x o))
    → Aborted {A = A} {B = B} act n es (Err (Traps BusError), left)
    ⊎ Came act next n es (Err (Traps BusError), left) → SomeFindsNothing xs m es
quiet_only act next n m left xs es t k (inl a) = t.only es left (first_part act n left es a)
quiet_only act next n m left xs es t k (inr c) =
    absurd (k c.value c.machine c.first c.leads c.rest left c.goes_on)

pub then_quiet : {A B : Type 0} (act : Act A) (next : A → Act B) (n m : Machine) (xs : List Access)
    → TrapsAtThese {A = A} (act n) xs m
    → ((x : A) (o : Machine) (first : List Exchange) → Leads (act n) first (Ok x, o) → NeverAt4 {A = B} (next x o))
    → TrapsAtThese {A = B} ((act >>= next) n) xs m
then_quiet act next n m xs t k = record {
  only = λ es left h.
      quiet_only act next n m left xs es t k (split act next n es (Err (Traps BusError), left) h);
  each = λ es some. let a = t.each es some in (a.0, aborts_too act next n a.0 es a.1);
}

pub never_traps : {A : Type 0} (d : Dialogue (Result A Abort × Machine)) (m : Machine) → NeverAt4 {A = A} d
    → TrapsAtThese {A = A} d [] m
never_traps d m k = record { only = λ es left h. k es left h; each = λ es s. absurd s }

-- if neither act traps through 4, the two in sequence don't
pub bind_never : {A B : Type 0} (act : Act A) (next : A → Act B) (m : Machine) → NeverAt4 {A = A} (act m)
    → ((x : A) (n : Machine) → NeverAt4 {A = B} (next x n)) → NeverAt4 {A = B} ((act >>= next) m)
bind_never act next m k l es left h =
    (then_quiet act next m m [] (never_traps (act m) m k) (λ x o first i. l x o)).only es left h

-- ---- one access

abbrev bad_of : Size → Result ℕ Abort → Machine → Bool
bad_of size (Ok address) m = is_nothing size address m
bad_of size (Err abort) m = false

pub record Accesses {A : Type 0} (d : Dialogue (Result A Abort × Machine)) (bad : Bool) : Type 0 where
  pub traps : bad ≡ true → (left : Machine) × (d ≡ Comes (Err (Traps BusError), left))
  pub finds : bad ≡ false → NeverAt4 {A = A} d

one_only : {A : Type 0} (d : Dialogue (Result A Abort × Machine)) (access : Access) (a : ℕ) (m before left : Machine)
    (es : List Exchange) (bad : Bool) → access.address m ≡ Comes (Ok a, before)
    → is_nothing access.size a before ≡ bad → Accesses {A = A} d bad → EndsAt4 {A = A} d es left
    → SomeFindsNothing (access ∷ []) m es
one_only {A = A} d access a m before left es true e f k h =
    let t = k.traps refl in
    let P : Dialogue (Result A Abort × Machine) → Type 0 = λ c. EndsAt4 {A = A} c es left in
    let none : es ≡ [] =
    none_left_over (Err (Traps BusError), t.0) (Err (Traps BusError), left) es (subst P t.1 h) in
    let Q : Dialogue (Result ℕ Abort × Machine) → Type 0 = λ c. Leads c [] (Ok a, before) in
    let R : List Exchange → Type 0 = λ fs. Leads (access.address m) fs (Ok a, before) in
    inl (record {
      address = a;
      before = before;
      leads_here = subst R (sym none) (subst Q (sym e) (leads_now (Ok a, before)));
      nothing = f;
    })
one_only d access a m before left es false e f k h = absurd (k.finds refl es left h)

one_each : {A : Type 0} (d : Dialogue (Result A Abort × Machine)) (access : Access) (a : ℕ) (m before : Machine)
    (es : List Exchange) → access.address m ≡ Comes (Ok a, before)
    → Accesses {A = A} d (is_nothing access.size a before) → SomeFindsNothing (access ∷ []) m es
    → (left : Machine) × EndsAt4 {A = A} d es left
one_each {A = A} d access a m before es e k (inl f) =
    let P : Dialogue (Result ℕ Abort × Machine) → Type 0 = λ c. Leads c es (Ok f.address, f.before) in
    let h = subst P e f.leads_here in
    let from : Result ℕ Abort × Machine = (Ok a, before) in
    let to : Result ℕ Abort × Machine = (Ok f.address, f.before) in
    let none : es ≡ [] = none_left_over from to es h in
    let bad : is_nothing access.size f.address f.before ≡ is_nothing access.size a before =
    ap (λ (y : Result ℕ Abort × Machine). bad_of access.size y.0 y.1) (at_once from to es h) in
    let t = k.traps (sym bad ∙ f.nothing) in
    let Q : Dialogue (Result A Abort × Machine) → Type 0 = λ c. EndsAt4 {A = A} c [] t.0 in
    let R : List Exchange → Type 0 = λ fs. EndsAt4 {A = A} d fs t.0 in
    (t.0, subst R (sym none) (subst Q (sym t.1) (leads_now (Err (Traps BusError), t.0))))
one_each d access a m before es e k (inr s) = absurd s

pub one_access : {A : Type 0} (d : Dialogue (Result A Abort × Machine)) (access : Access) (a : ℕ) (m before : Machine)
    → access.address m ≡ Comes (Ok a, before) → Accesses {A = A} d (is_nothing access.size a before)
    → TrapsAtThese {A = A} d (access ∷ []) m
one_access d access a m before e k = record {
  only = λ es left h. one_only d access a m before left es (is_nothing access.size a before) e refl k h;
  each = λ es some. one_each d access a m before es e k some;
}

-- ---- loads and stores

pub load_word_at : (address : ℕ) (m : Machine) → Accesses {A = ℕ} (load_word address m) (no_word_at address m)
load_word_at address m = record {
  traps = λ e. (m, load_word_bad address m e);
  finds = λ e es left h. true≢false (load_word_traps address m es (Err (Traps BusError)) left h ∙ e);
}

pub load_byte_at : (address : ℕ) (m : Machine) → Accesses {A = ℕ} (load_byte address m) (no_byte_at address m)
load_byte_at address m = record {
  traps = λ e. (m, load_byte_bad address m e);
  finds = λ e es left h. true≢false (load_byte_traps address m es (Err (Traps BusError)) left h ∙ e);
}

pub store_word_at : (address v : ℕ) (m : Machine)
    → Accesses {A = Unit {0}} (store_word address v m) (no_word_at address m)
store_word_at address v m = record {
  traps = λ e. (m, store_word_bad address v m e);
  finds = λ e es left h. true≢false (store_word_traps address v m es (Err (Traps BusError)) left h ∙ e);
}

pub store_byte_at : (address v : ℕ) (m : Machine)
    → Accesses {A = Unit {0}} (store_byte address v m) (no_byte_at address m)
store_byte_at address v m = record {
  traps = λ e. (m, store_byte_bad address v m e);
  finds = λ e es left h. true≢false (store_byte_traps address v m es (Err (Traps BusError)) left h ∙ e);
}

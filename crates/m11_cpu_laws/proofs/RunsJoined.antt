-- A run is the same as a run of its first steps, followed by a run of the others.
use Rattle.std.proofs.Common.{◌≡◌, ℕ, zero, suc, ◌+◌, List, [], ◌∷◌, ◌++◌, refl, sym, ◌∙◌, subst, ap, ap₂, append_assoc, append-nil, arith}
use Rattle.m11_cpu_machine.specs.declared.machine.Machine.{Machine}
use Rattle.m11_cpu.specs.declared.runs.Ran.{Ran}
use Rattle.m11_cpu_machine.specs.declared.stop.Stop.{Stop}
use Rattle.m11_cpu_machine.specs.declared.stop.Stop.TheVariants.{Limit}
use Rattle.m11_cpu_machine.specs.declared.stop.Turn.{Turn}
use Rattle.m11_cpu_machine.specs.declared.stop.Turn.TheVariants.{Next, Stopped}
use Rattle.m11_cpu_machine.specs.Dialogue.{after, Asked, Asks, Comes, Dialogue, Exchange, Leads, Sends, Sent}
use Rattle.m11_cpu_laws.specs.Laws.{AreJoined, StopLasts}
use Rattle.m11_cpu.specs.Runs.{following, one_more, run_counted}
use Rattle.m11_cpu_machine.specs.Steps.{step}
use Rattle.m11_cpu_machine.proofs.Dialogues.{leads_after}
use Rattle.m11_cpu_laws.proofs.StopsLast.{at_once, step_stop_lasts}

-- a dialogue and the one after it, with the exchanges of each
record Parts {A B : Type 0} (d : Dialogue A) (next : A → Dialogue B) (es : List Exchange) (y : B) : Type 0 where
  value : A
  first : List Exchange
  second : List Exchange
  joined : es ≡ first ++ second
  leads : Leads d first value
  goes_on : Leads (next value) second y

with_first : {A B : Type 0} (d d' : Dialogue A) (next : A → Dialogue B) (e : Exchange) (es : List Exchange) (y : B)
    → ((xs : List Exchange) (x : A) → Leads d' xs x → Leads d (e ∷ xs) x) → Parts d' next es y → Parts d next (e ∷ es) y
with_first d d' next e es y lead p = record {
  value = p.value;
  first = e ∷ p.first;
  second = p.second;
  joined = ap (λ (xs : List Exchange). e ∷ xs) p.joined;
  leads = lead p.first p.value p.leads;
  goes_on = p.goes_on;
}

parts : {A B : Type 0} (d : Dialogue A) (next : A → Dialogue B) (es : List Exchange) (y : B)
    → Leads (after d next) es y → Parts d next es y
unfolding Leads
parts (Comes x) next es y h =
    record { value = x; first = []; second = es; joined = refl; leads = refl; goes_on = h }
parts (Asks by) next [] y h = absurd h
parts (Asks by) next (Asked reply ∷ es) y h =
    with_first (Asks by) (by reply) next (Asked reply) es y (λ xs x l. l) (parts (by reply) next es y h)
parts (Asks by) next (Sent byte was_taken ∷ es) y h = absurd h
parts (Sends byte by) next [] y h = absurd h
parts (Sends byte by) next (Asked reply ∷ es) y h = absurd h
parts (Sends byte by) next (Sent sent was_taken ∷ es) y h =
    with_first (Sends byte by) (by was_taken) next (Sent sent was_taken) es y (λ xs x l. (h.0, l))
    (parts (by was_taken) next es y h.1)

abbrev ran : Stop → ℕ → Ran
ran stop steps = record { stop = stop; steps = steps }

none_left : {A : Type 0} (x y : A) (es : List Exchange) → Leads (Comes x) es y → es ≡ []
unfolding Leads
none_left x y [] h = refl
none_left x y (e ∷ es) h = absurd h

leads_none : {A : Type 0} (x y : A) → y ≡ x → Leads (Comes x) [] y
unfolding Leads
leads_none x y e = e

-- a step that doesn't stop, followed by a run, is a run with one more step
step_first : (left : ℕ) (m m1 m2 : Machine) (es fs : List Exchange) (r : Ran) → Leads (step m) es (Next, m1)
    → Leads (run_counted left m1) fs (r, m2) → Leads (run_counted (suc left) m) (es ++ fs) (one_more r, m2)
unfolding run_counted
step_first left m m1 m2 es fs r h k =
    let reported =
    leads_after (run_counted left m1) fs [] (r, m2) (λ x. Comes (one_more x.0, x.1)) (one_more r, m2) k
    (leads_none _ _ refl) in
    let P : List Exchange → Type 0 =
    λ xs. Leads {A = Ran × Machine} (after (run_counted left m1) (λ x. Comes (one_more x.0, x.1))) xs
    (one_more r, m2) in
    leads_after (step m) es fs (Next, m1) (λ came. following (run_counted left) came.0 came.1) (one_more r, m2) h
    (subst P (append-nil fs) reported)

-- if the runs after a first step that doesn't stop are joined, so are the runs with that step
joined_next : (left second : ℕ) (m m1 m' m'' : Machine) (es1 es2 fs : List Exchange) (steps : ℕ) (r : Ran)
    → ((es fs : List Exchange) (steps : ℕ) (r : Ran) → Leads (run_counted left m1) es (ran Limit steps, m')
    → Leads (run_counted second m') fs (r, m'')
    → Leads (run_counted (left + second) m1) (es ++ fs) (ran r.stop (left + r.steps), m''))
    → Leads (step m) es1 (Next, m1) → Leads (following (run_counted left) Next m1) es2 (ran Limit steps, m')
    → Leads (run_counted second m') fs (r, m'')
    → Leads (run_counted (suc (left + second)) m) (es1 ++ (es2 ++ fs)) (ran r.stop (left + r.steps + 1), m'')
joined_next left second m m1 m' m'' es1 es2 fs steps r rest h k l =
    let p = parts (run_counted left m1) (λ x. Comes (one_more x.0, x.1)) es2 (ran Limit steps, m') k in
    let e = at_once _ _ p.second p.goes_on in
    let same_stop : p.value.0.stop ≡ Limit = sym (ap (λ (x : Ran × Machine). x.0.stop) e) in
    let same_machine : p.value.1 ≡ m' = sym (ap (λ (x : Ran × Machine). x.1) e) in
    let P : Ran × Machine → Type 0 = λ x. Leads (run_counted left m1) p.first x in
    let value_is : p.value ≡ (ran Limit p.value.0.steps, m') =
    (let to : Stop → Machine → Ran × Machine = λ s n. (ran s p.value.0.steps, n) in ap₂ to same_stop same_machine) in
    let whole = step_first (left + second) m m1 m'' es1 (p.first ++ fs) (ran r.stop (left + r.steps)) h
    (rest p.first fs p.value.0.steps r (subst P value_is p.leads) l) in
    let Q : List Exchange → Type 0 =
    λ xs. Leads (run_counted (suc (left + second)) m) (es1 ++ (xs ++ fs)) (ran r.stop (left + r.steps + 1), m'') in
    subst Q (sym (p.joined ∙ ap (λ (xs : List Exchange). p.first ++ xs) (none_left _ _ p.second p.goes_on)
    ∙ append-nil p.first)) whole

-- the same for any first step, since a step never stops with LIMIT
joined_cases : (left second : ℕ) (turn : Turn) (m m1 m' m'' : Machine) (es1 es2 fs : List Exchange) (steps : ℕ)
    (r : Ran)
    → ((es fs : List Exchange) (steps : ℕ) (r : Ran) → Leads (run_counted left m1) es (ran Limit steps, m')
    → Leads (run_counted second m') fs (r, m'')
    → Leads (run_counted (left + second) m1) (es ++ fs) (ran r.stop (left + r.steps), m''))
    → Leads (step m) es1 (turn, m1) → Leads (following (run_counted left) turn m1) es2 (ran Limit steps, m')
    → Leads (run_counted second m') fs (r, m'')
    → Leads (run_counted (suc (left + second)) m) (es1 ++ (es2 ++ fs)) (ran r.stop (left + r.steps + 1), m'')
joined_cases left second Next m m1 m' m'' es1 es2 fs steps r rest h k l =
    joined_next left second m m1 m' m'' es1 es2 fs steps r rest h k l
joined_cases left second (Stopped stop) m m1 m' m'' es1 es2 fs steps r rest h k l =
    let e = at_once _ _ es2 k in
    let limit : stop ≡ Limit = sym (ap (λ (x : Ran × Machine). x.0.stop) e) in
    let P : Stop → Type 0 = λ s. StopLasts (Stopped s) m1 in
    absurd (subst P limit (step_stop_lasts m es1 (Stopped stop, m1) h))

pub runs_joined : (first second : ℕ) (m m' m'' : Machine) → AreJoined first second m m' m''
unfolding run_counted
runs_joined zero second m m' m'' es fs steps r h k =
    let P : List Exchange → Type 0 =
    λ xs. Leads (run_counted (0 + second) m) (xs ++ fs) (ran r.stop (0 + r.steps), m'') in
    let Q : Machine → Type 0 = λ n. Leads (run_counted second n) fs (r, m'') in
    let R : ℕ → Type 0 = λ n. Leads (run_counted n m) fs (ran r.stop (0 + r.steps), m'') in
    let S : ℕ → Type 0 = λ n. Leads (run_counted second m) fs (ran r.stop n, m'') in
    let e : second ≡ 0 + second = omega arith in
    let f : r.steps ≡ 0 + r.steps = omega arith in
    subst P (sym (none_left _ _ es h))
    (subst R e (subst S f (subst Q (ap (λ (x : Ran × Machine). x.1) (at_once _ _ es h)) k)))
runs_joined (suc left) second m m' m'' es fs steps r h k =
    let p = parts (step m) (λ came. following (run_counted left) came.0 came.1) es (ran Limit steps, m') h in
    let whole = joined_cases left second p.value.0 m p.value.1 m' m'' p.first p.second fs steps r
    (runs_joined left second p.value.1 m' m'') p.leads p.goes_on k in
    let P : List Exchange → Type 0 =
    λ xs. Leads (run_counted (suc left + second) m) xs (ran r.stop (suc left + r.steps), m'') in
    let Q : ℕ → Type 0 =
    λ n. Leads (run_counted n m) (p.first ++ (p.second ++ fs)) (ran r.stop (suc left + r.steps), m'') in
    let R : ℕ → Type 0 =
    λ n. Leads (run_counted (suc (left + second)) m) (p.first ++ (p.second ++ fs)) (ran r.stop n, m'') in
    let e : suc (left + second) ≡ suc left + second = omega arith in
    let f : left + r.steps + 1 ≡ suc left + r.steps = omega arith in
    subst P (sym (append_assoc p.first p.second fs) ∙ ap (λ (xs : List Exchange). xs ++ fs) (sym p.joined))
    (subst Q e (subst R f whole))

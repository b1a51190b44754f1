-- Properties of the exchanges on each path through a dialogue, part by part.
use Rattle.std.proofs.Common.{◌≡◌, Bool, true, false, cond, List, [], ◌∷◌, ◌++◌, append-nil, refl, sym, subst, Option, Some, None, Result, Ok, Err, ℕ}
use Rattle.m11_cpu_machine.specs.Acts.{Act, unless_aborted, ◌>>=◌}
use Rattle.m11_cpu_machine.specs.Dialogue.{after, Asked, Comes, Dialogue, Ends, Exchange, Fails, Gives, Leads, Sent}
use Rattle.m11_cpu_machine.specs.Stop.{stop_of}
use Rattle.m11_cpu_machine.specs.declared.abort.Abort.{Abort}
use Rattle.m11_cpu_machine.specs.declared.abort.Abort.TheVariants.{Traps, Stops}
use Rattle.m11_cpu_machine.specs.declared.console.Receiver.{Receiver}
use Rattle.m11_cpu_machine.specs.declared.machine.Machine.{Machine}
use Rattle.m11_cpu_machine.specs.declared.stop.LastingStop.{LastingStop}
use Rattle.m11_cpu_machine.specs.declared.stop.Stop.{Stop}
use Rattle.m11_cpu_laws.specs.Failures.{StopsAtFailure}
use Rattle.m11_cpu_laws.specs.Laws.{given}
use Rattle.m11_cpu_laws.specs.Receiving.{AsksBeforeEnd, ReceiverChanges, last_received}
use Rattle.m11_cpu_laws.proofs.Parts.{parts}

-- ---- each path through a dialogue

pub record Every {A : Type 0} (d : Dialogue A) (P : List Exchange → A → Type 0) : Type 0 where
  pub each : (es : List Exchange) (y : A) → Leads d es y → P es y

pub once : {A : Type 0} (P : List Exchange → A → Type 0) (x : A) (es : List Exchange) (y : A) → P [] x
    → Leads (Comes x) es y → P es y
unfolding Leads
once {A = A} P x [] y p h = let Q : A → Type 0 = λ z. P [] z in subst Q (sym h) p
once P x (e ∷ es) y p h = absurd h

pub every_comes : {A : Type 0} (x : A) (P : List Exchange → A → Type 0) → P [] x → Every (Comes x) P
every_comes x P p = record { each = λ es y h. once P x es y p h }

pub every_map : {A : Type 0} {d : Dialogue A} {P Q : List Exchange → A → Type 0} → Every d P
    → ((es : List Exchange) (y : A) → P es y → Q es y) → Every d Q
every_map a k = record { each = λ es y h. k es y (a.each es y h) }

pub every_after : {A B : Type 0} (d : Dialogue A) (next : A → Dialogue B) (P : List Exchange → A → Type 0)
    (Q : List Exchange → B → Type 0) → Every d P
    → ((fs : List Exchange) (x : A) → P fs x → Every (next x) (λ es y. Q (fs ++ es) y)) → Every (after d next) Q
every_after {B = B} d next P Q a k = record {
  each = λ es y h.
      let p = parts d next es y h in
      let R : List Exchange → Type 0 = λ xs. Q xs y in
      subst R (sym p.within.joined)
      ((k p.within.first p.value (a.each p.within.first p.value p.within.leads)).each p.within.rest y p.goes_on);
}

-- ---- outcomes of an act

-- the stop that an abort causes; None for a trap
abbrev pub stop_by : Abort → Option Stop
stop_by (Traps vector) = None
stop_by (Stops stop) = Some (stop_of stop)

abbrev pub abort_stop : {A : Type 0} → Result A Abort → Option Stop
abort_stop (Ok x) = None
abort_stop (Err abort) = stop_by abort

pub record Talked (r : Receiver) (stands : Option LastingStop) (es : List Exchange) (failure : Option Stop)
    (n : Machine) : Type 0 where
  pub failed : StopsAtFailure es failure
  pub heard : ReceiverChanges r es n.receiver
  pub kept : n.stopped ≡ stands

abbrev pub Reports : {A : Type 0} → Receiver → Option LastingStop → Dialogue (Result A Abort × Machine) → Type 0
Reports {A = A} r stands d =
    Every {A = Result A Abort × Machine} d (λ es y. Talked r stands es (abort_stop y.0) y.1)

-- ---- no exchange, one exchange, and one list of exchanges after another

pub hears_nothing : (r : Receiver) → ReceiverChanges r [] r
hears_nothing r = record { asked = refl; byte = refl; done = λ e d. d }

pub quiet : {A : Type 0} {x : Result A Abort} {n : Machine} {r : Receiver} {stands : Option LastingStop}
    → abort_stop x ≡ None → n.receiver ≡ r → n.stopped ≡ stands → Reports r stands (Comes (x, n))
quiet {A = A} {x = x} {n = n} {r = r} {stands = stands} fine same kept =
    let P : Receiver → Type 0 = λ s. ReceiverChanges s [] n.receiver in
    every_comes (x, n) _ (record { failed = fine; heard = subst P same (hears_nothing n.receiver); kept = kept })

pub failures_joined : (es fs : List Exchange) (failure : Option Stop) → StopsAtFailure es None → StopsAtFailure fs failure
    → StopsAtFailure (es ++ fs) failure
failures_joined [] fs failure h k = k
failures_joined (Asked (Gives byte) ∷ es) fs failure h k = failures_joined es fs failure h k
failures_joined (Asked Ends ∷ es) fs failure h k = failures_joined es fs failure h k
failures_joined (Asked Fails ∷ es) fs failure h k = let e = h.1 in absurd (cc)
failures_joined (Sent byte true ∷ es) fs failure h k = failures_joined es fs failure h k
failures_joined (Sent byte false ∷ es) fs failure h k = let e = h.1 in absurd (cc)

asked_joined : (a b c : Bool) (es fs : List Exchange) → AsksBeforeEnd a es b → AsksBeforeEnd b fs c
    → AsksBeforeEnd a (es ++ fs) c
asked_joined a b c [] fs h k = let P : Bool → Type 0 = λ x. AsksBeforeEnd x fs c in subst P h k
asked_joined a b c (Asked (Gives byte) ∷ es) fs h k = (h.0, asked_joined false b c es fs h.1 k)
asked_joined a b c (Asked Ends ∷ es) fs h k = (h.0, asked_joined true b c es fs h.1 k)
asked_joined a b c (Asked Fails ∷ es) fs h k = (h.0, asked_joined false b c es fs h.1 k)
asked_joined a b c (Sent byte taken ∷ es) fs h k = asked_joined a b c es fs h k

last_joined : (byte : ℕ) (es fs : List Exchange) → last_received byte (es ++ fs) ≡ last_received (last_received byte es) fs
last_joined byte [] fs = refl
last_joined byte (Asked (Gives new) ∷ es) fs = last_joined new es fs
last_joined byte (Asked Ends ∷ es) fs = last_joined byte es fs
last_joined byte (Asked Fails ∷ es) fs = last_joined byte es fs
last_joined byte (Sent sent taken ∷ es) fs = last_joined byte es fs

none_given : (es fs : List Exchange) → given (es ++ fs) ≡ [] → (given es ≡ []) × (given fs ≡ [])
none_given [] fs h = (refl, h)
none_given (Asked (Gives new) ∷ es) fs h = absurd (cc)
none_given (Asked Ends ∷ es) fs h = none_given es fs h
none_given (Asked Fails ∷ es) fs h = none_given es fs h
none_given (Sent sent taken ∷ es) fs h = none_given es fs h

pub heard_joined : (r s t : Receiver) (es fs : List Exchange) → ReceiverChanges r es s → ReceiverChanges s fs t → ReceiverChanges r (es ++ fs) t
heard_joined r s t es fs h k = record {
  asked = asked_joined r.has_ended s.has_ended t.has_ended es fs h.asked k.asked;
  byte = let e = h.byte in let f = k.byte in let g = last_joined r.byte es fs in cc;
  done = λ none d. let n = none_given es fs none in h.done n.0 (k.done n.1 d);
}

pub talked_joined : (r : Receiver) (stands : Option LastingStop) (es fs : List Exchange) (failure : Option Stop)
    (m n : Machine) → Talked r stands es None m → Talked m.receiver m.stopped fs failure n
    → Talked r stands (es ++ fs) failure n
talked_joined r stands es fs failure m n h k = record {
  failed = failures_joined es fs failure h.failed k.failed;
  heard = heard_joined r m.receiver n.receiver es fs h.heard k.heard;
  kept = let e = h.kept in let f = k.kept in cc;
}

bound : {A B : Type 0} (next : A → Act B) (r : Receiver) (stands : Option LastingStop)
    → ((x : A) (n : Machine) → Reports n.receiver n.stopped (next x n))
    → (fs : List Exchange) (x : Result A Abort) (n : Machine) → Talked r stands fs (abort_stop x) n
    → Every (unless_aborted next x n) (λ es y. Talked r stands (fs ++ es) (abort_stop y.0) y.1)
bound next r stands ok fs (Ok x) n t =
    every_map (ok x n) (λ es y k. talked_joined r stands fs es (abort_stop y.0) n y.1 t k)
bound next r stands ok fs (Err abort) n t =
    let P : List Exchange → Type 0 = λ xs. Talked r stands xs (stop_by abort) n in
    every_comes (Err abort, n) _ (subst P (sym (append-nil fs)) t)

pub reports_bind : {A B : Type 0} (act : Act A) (next : A → Act B) (m : Machine)
    → Reports m.receiver m.stopped (act m) → ((x : A) (n : Machine) → Reports n.receiver n.stopped (next x n))
    → Reports m.receiver m.stopped ((act >>= next) m)
unfolding ◌>>=◌
reports_bind act next m a ok =
    every_after (act m) (λ came. unless_aborted next came.0 came.1) _ _ a
    (λ fs came t. bound next m.receiver m.stopped ok fs came.0 came.1 t)

pub reports_cond : {A : Type 0} (test : Bool) {a b : Dialogue (Result A Abort × Machine)} {r : Receiver}
    {stands : Option LastingStop} → Reports r stands a → Reports r stands b → Reports r stands (cond test a b)
reports_cond true p q = p
reports_cond false p q = q

-- Dialogues one after the other, and at a choice.
use Rattle.std.proofs.Common.{◌≡◌, ℕ, Bool, true, false, cond, List, [], ◌∷◌, ◌++◌, refl, sym, ◌∙◌, subst, ap, ap₂, Option, Some, None, Result, Ok, Err}
use Rattle.std.specs.Prelude.{IsErrAnd, zero, suc, ◌≤◌, ◌==◌, not, take}
use Rattle.std.specs.Io.KnownBytes.{Appends}
use Rattle.std.proofs.Common.{arith}
use Rattle.m11_base.specs.Sink.{CountsAt}
use Rattle.m11_cpu_machine.specs.declared.abort.Abort.{Abort}
use Rattle.m11_cpu_machine.specs.declared.machine.Machine.{Machine}
use Rattle.m11_cpu_arithmetic.specs.declared.results.Computed.{Computed}
use Rattle.m11_base.specs.declared.operand.Size.{Size}
use Rattle.m11_cpu_machine.specs.declared.addressing.OperandLocation.{OperandLocation}
use Rattle.m11_cpu_machine.specs.declared.addressing.OperandLocation.TheVariants.{InMemory}
use Rattle.m11_cpu_machine.specs.DoubleOperands.{change_exclusive}
use Rattle.m11_cpu_machine.specs.Jumps.{push}
use Rattle.m11_cpu_machine.specs.Addressing.{in_memory, store_result}
use Rattle.m11_cpu_machine.specs.Acts.{Act, value, ◌>>=◌}
use Rattle.m11_cpu_machine.specs.Dialogue.{Reply, Dialogue, Comes, Asks, Sends, after, Exchange, Asked, Sent, Leads, Devices, Happened, Does, Replies, DialogueAccepts, Input, Output}

pub leads_after : {A B : Type 0} (d : Dialogue A) (es fs : List Exchange) (x : A) (next : A → Dialogue B) (y : B)
    → Leads d es x → Leads (next x) fs y → Leads (after d next) (es ++ fs) y
unfolding Leads
leads_after {A = A} (Comes x) [] fs z next y e h = let P : A → Type 0 = λ v. Leads (next v) fs y in subst P e h
leads_after (Comes x) (e ∷ es) fs z next y h k = absurd h
leads_after (Asks by) [] fs z next y h k = absurd h
leads_after (Asks by) (Asked r ∷ es) fs z next y h k = leads_after (by r) es fs z next y h k
leads_after (Asks by) (Sent b t ∷ es) fs z next y h k = absurd h
leads_after (Sends b by) [] fs z next y h k = absurd h
leads_after (Sends b by) (Asked r ∷ es) fs z next y h k = absurd h
leads_after (Sends b by) (Sent c t ∷ es) fs z next y h k = (h.0, leads_after (by t) es fs z next y h.1 k)

happened_after : (old middle new : Devices) (es fs : List Exchange) → Happened old middle es → Happened middle new fs
    → Happened old new (es ++ fs)
unfolding Happened
happened_after old middle new [] fs e h = let P : Devices → Type 0 = λ d. Happened d new fs in subst P e h
happened_after old middle new (e ∷ es) fs h k = (h.0, h.1, happened_after h.0 middle new es fs h.2 k)

-- a dialogue that yields a value at once does so without any exchange
pub comes : {A : Type 0} (d : Devices) (x y : A) → y ≡ x → Does (Comes x) d d y
unfolding Leads Happened
comes d x y e = record { exchanges = []; leads = e; happened = refl }

-- if a call returned an abort, yielding the abort needs no exchange
pub comes_aborted : {A E S : Type 0} (d : Devices) (r : Result A E) (e : E) (m : S) → IsErrAnd r (λ f. f ≡ e)
    → Does {A = Result A E × S} (Comes (Err e, m)) d d (r, m)
comes_aborted d (Ok x) e m h = absurd h
comes_aborted {A = A} {E = E} {S = S} d (Err f) e m h =
    let to : E → Result A E × S = λ x. (Err x, m) in comes d _ _ (ap to h)

-- if a dialogue yields x, and the next dialogue for x yields y, the two in sequence yield y
pub then_does : {A B : Type 0} (m : Dialogue A) (next : A → Dialogue B) (old middle new : Devices) (x : A) (y : B)
    → Does m old middle x → Does (next x) middle new y → Does (after m next) old new y
then_does m next old middle new x y h k = record {
  exchanges = h.exchanges ++ k.exchanges;
  leads = leads_after m h.exchanges k.exchanges x next y h.leads k.leads;
  happened = happened_after old middle new h.exchanges k.exchanges h.happened k.happened;
}

-- a choice does what the first dialogue does if the test is true, and what the second does if it is false
pub if_so : {A : Type 0} (test : Bool) (a b : Dialogue A) (old new : Devices) (y : A) → test ≡ true → Does a old new y
    → Does (cond test a b) old new y
if_so test a b old new y e h = let P : Bool → Type 0 = λ t. Does (cond t a b) old new y in subst P (sym e) h

pub if_not : {A : Type 0} (test : Bool) (a b : Dialogue A) (old new : Devices) (y : A) → test ≡ false → Does b old new y
    → Does (cond test a b) old new y
if_not test a b old new y e h = let P : Bool → Type 0 = λ t. Does (cond t a b) old new y in subst P (sym e) h

-- the same if a call has returned the value of the test
pub if_so_by : {A : Type 0} (found test : Bool) (a b : Dialogue A) (old new : Devices) (y : A) → found ≡ test
    → found ≡ true → Does a old new y → Does (cond test a b) old new y
if_so_by found test a b old new y f e h = if_so test a b old new y (sym f ∙ e) h

pub if_not_by : {A : Type 0} (found test : Bool) (a b : Dialogue A) (old new : Devices) (y : A) → found ≡ test
    → found ≡ false → Does b old new y → Does (cond test a b) old new y
if_not_by found test a b old new y f e h = if_not test a b old new y (sym f ∙ e) h

-- a dialogue that asks for a byte or sends one does what the dialogue for the device's reply does
pub asks : {A : Type 0} (by : Reply → Dialogue A) (i i' : Input) (new : Devices) (y : A) (reply : Reply)
    → Replies i i' reply → Does (by reply) (record { input = Some i'; output = None }) new y
    → Does (Asks by) (record { input = Some i; output = None }) new y
unfolding Leads Happened
asks by i i' new y reply r k = record {
  exchanges = Asked reply ∷ k.exchanges;
  leads = k.leads;
  happened = (record { input = Some i'; output = None }, (r, refl), k.happened);
}

pub sends : {A : Type 0} (byte : ℕ) (by : Bool → Dialogue A) (o o' : Output) (new : Devices) (y : A) (taken : Bool)
    → DialogueAccepts o o' byte taken → Does (by taken) (record { input = None; output = Some o' }) new y
    → Does (Sends byte by) (record { input = None; output = Some o }) new y
unfolding Leads Happened
sends byte by o o' new y taken t k = record {
  exchanges = Sent byte taken ∷ k.exchanges;
  leads = (refl, k.leads);
  happened = (record { input = None; output = Some o' }, (t, refl), k.happened);
}

-- a dialogue whose only exchange sends a byte yields what follows the output's reply, which a call has returned
pub sends_at_once : {A : Type 0} (byte : ℕ) (by : Bool → Dialogue A) (o o' : Output) (y : A) (taken : Bool)
    → DialogueAccepts o o' byte taken
    → Does (by taken) (record { input = None; output = Some o' }) (record { input = None; output = Some o' }) y
    → Does (Sends byte by) (record { input = None; output = Some o }) (record { input = None; output = Some o' }) y
sends_at_once byte by o o' y taken t k = sends byte by o o' _ y taken t k

-- if one byte is put, the output accepts it if the count is 1, and nothing if the count is 0
pub accepts_by_count : (o o' : Output) (byte count : ℕ) → count ≤ 1 → Appends o.text o'.text (take count (byte ∷ []))
    → CountsAt o.faults o'.faults count 1 → DialogueAccepts o o' byte (not (count == 0))
accepts_by_count o o' byte zero le a c = (a, c)
accepts_by_count o o' byte (suc zero) le a c = (a, c)
accepts_by_count o o' byte (suc (suc n)) le a c = absurd (omega arith)

-- ---- with one more device, which takes no part

happened_beside_output : (old new : Option Input) (o : Option Output) (es : List Exchange)
    → Happened (record { input = old; output = None }) (record { input = new; output = None }) es
    → Happened (record { input = old; output = o }) (record { input = new; output = o }) es
unfolding Happened
happened_beside_output old new o [] h =
    ap (λ (d : Devices). let e : Devices = record { input = d.input; output = o } in e) h
happened_beside_output old new o (Asked reply ∷ es) h =
    let P : Option Output → Type 0 =
    λ x. Happened (record { input = h.0.input; output = x }) (record { input = new; output = None }) es in (
      record { input = h.0.input; output = o },
      (h.1.0, refl),
      happened_beside_output h.0.input new o es (subst P h.1.1 h.2),
    )
happened_beside_output old new o (Sent byte taken ∷ es) h = absurd h.1.0

pub reads_beside : {A : Type 0} (d : Dialogue A) (i i' : Option Input) (o : Option Output) (y : A)
    → Does d (record { input = i; output = None }) (record { input = i'; output = None }) y
    → Does d (record { input = i; output = o }) (record { input = i'; output = o }) y
reads_beside d i i' o y h = record {
  exchanges = h.exchanges;
  leads = h.leads;
  happened = happened_beside_output i i' o h.exchanges h.happened;
}

happened_beside_input : (i : Option Input) (old new : Option Output) (es : List Exchange)
    → Happened (record { input = None; output = old }) (record { input = None; output = new }) es
    → Happened (record { input = i; output = old }) (record { input = i; output = new }) es
unfolding Happened
happened_beside_input i old new [] h =
    ap (λ (d : Devices). let e : Devices = record { input = i; output = d.output } in e) h
happened_beside_input i old new (Sent byte taken ∷ es) h =
    let P : Option Input → Type 0 =
    λ x. Happened (record { input = x; output = h.0.output }) (record { input = None; output = new }) es in (
      record { input = i; output = h.0.output },
      (h.1.0, refl),
      happened_beside_input i h.0.output new es (subst P h.1.1 h.2),
    )
happened_beside_input i old new (Asked reply ∷ es) h = absurd h.1.0

pub writes_beside : {A : Type 0} (d : Dialogue A) (i : Option Input) (o o' : Option Output) (y : A)
    → Does d (record { input = None; output = o }) (record { input = None; output = o' }) y
    → Does d (record { input = i; output = o }) (record { input = i; output = o' }) y
writes_beside d i o o' y h = record {
  exchanges = h.exchanges;
  leads = h.leads;
  happened = happened_beside_input i o o' h.exchanges h.happened;
}

-- ---- the same for acts

pub comes_ok : {A E S : Type 0} (d : Devices) (x x' : A) (m m' : S) → x' ≡ x → m' ≡ m
    → Does {A = Result A E × S} (Comes (Ok x, m)) d d (Ok x', m')
comes_ok {A = A} {E = E} {S = S} d x x' m m' e f =
    let to : A → S → Result A E × S = λ v n. (Ok v, n) in comes d _ _ (ap₂ to e f)

pub value_does : {A : Type 0} (d : Devices) (of : Machine → A) (x : A) (m : Machine) → x ≡ of m
    → Does (value of m) d d (Ok x, m)
unfolding value
value_does d of x m e = comes_ok d (of m) x m m e refl

pub bind_does : {A B : Type 0} (act : Act A) (next : A → Act B) (m m' : Machine) (old middle new : Devices) (x : A)
    (y : Result B Abort × Machine) → Does (act m) old middle (Ok x, m') → Does (next x m') middle new y
    → Does ((act >>= next) m) old new y
unfolding ◌>>=◌
bind_does act next m m' old middle new x y h k = then_does (act m) _ old middle new (Ok x, m') y h k

pub bind_aborts : {A B : Type 0} (act : Act A) (next : A → Act B) (m m' : Machine) (old new : Devices) (e : Abort)
    (r : Result B Abort) → Does (act m) old new (Err e, m') → IsErrAnd r (λ f. f ≡ e)
    → Does ((act >>= next) m) old new (r, m')
unfolding ◌>>=◌
bind_aborts act next m m' old new e r h k = then_does (act m) _ old new new (Err e, m') _ h (comes_aborted new r e m' k)

-- an act that uses one device, followed by an act with both devices, is one act with both devices
pub bind_reads : {A B : Type 0} (act : Act A) (next : A → Act B) (m m' : Machine) (i i' : Option Input)
    (o : Option Output) (new : Devices) (x : A) (y : Result B Abort × Machine)
    → Does (act m) (record { input = i; output = None }) (record { input = i'; output = None }) (Ok x, m')
    → Does (next x m') (record { input = i'; output = o }) new y
    → Does ((act >>= next) m) (record { input = i; output = o }) new y
bind_reads act next m m' i i' o new x y h k =
    bind_does act next m m' _ (record { input = i'; output = o }) new x y (reads_beside (act m) i i' o _ h) k

pub bind_reads_aborts : {A B : Type 0} (act : Act A) (next : A → Act B) (m m' : Machine) (i i' : Option Input)
    (o : Option Output) (e : Abort) (r : Result B Abort)
    → Does (act m) (record { input = i; output = None }) (record { input = i'; output = None }) (Err e, m')
    → IsErrAnd r (λ f. f ≡ e)
    → Does ((act >>= next) m) (record { input = i; output = o }) (record { input = i'; output = o }) (r, m')
bind_reads_aborts act next m m' i i' o e r h k =
    bind_aborts act next m m' _ _ e r (reads_beside (act m) i i' o _ h) k

pub bind_writes : {A B : Type 0} (act : Act A) (next : A → Act B) (m m' : Machine) (i : Option Input)
    (o o' : Option Output) (new : Devices) (x : A) (y : Result B Abort × Machine)
    → Does (act m) (record { input = None; output = o }) (record { input = None; output = o' }) (Ok x, m')
    → Does (next x m') (record { input = i; output = o' }) new y
    → Does ((act >>= next) m) (record { input = i; output = o }) new y
bind_writes act next m m' i o o' new x y h k =
    bind_does act next m m' _ (record { input = i; output = o' }) new x y (writes_beside (act m) i o o' _ h) k

pub bind_writes_aborts : {A B : Type 0} (act : Act A) (next : A → Act B) (m m' : Machine) (i : Option Input)
    (o o' : Option Output) (e : Abort) (r : Result B Abort)
    → Does (act m) (record { input = None; output = o }) (record { input = None; output = o' }) (Err e, m')
    → IsErrAnd r (λ f. f ≡ e)
    → Does ((act >>= next) m) (record { input = i; output = o }) (record { input = i; output = o' }) (r, m')
bind_writes_aborts act next m m' i o o' e r h k =
    bind_aborts act next m m' _ _ e r (writes_beside (act m) i o o' _ h) k

-- ---- acts on values that a call has computed

-- an act does the same on equal values
pub act_by : {A B : Type 0} (act : A → Act B) (x x' : A) (m : Machine) (old new : Devices)
    (y : Result B Abort × Machine) → x ≡ x' → Does (act x' m) old new y → Does (act x m) old new y
act_by {A = A} act x x' m old new y e h = let P : A → Type 0 = λ v. Does (act v m) old new y in subst P (sym e) h

-- an act does the same on a machine that equals the one that a call left
pub at_machine : {A : Type 0} (act : Act A) (m m' : Machine) (old new : Devices) (y : Result A Abort × Machine)
    → m' ≡ m → Does (act m') old new y → Does (act m) old new y
at_machine act m m' old new y e h = let P : Machine → Type 0 = λ n. Does (act n) old new y in subst P e h

-- an act does the same on an equal address and machine, as a step of a register yields them
pub at_pair : {B : Type 0} (act : ℕ → Act B) (to came : ℕ × Machine) (old new : Devices)
    (y : Result B Abort × Machine) → came ≡ to → Does (act came.0 came.1) old new y → Does (act to.0 to.1) old new y
at_pair act to came old new y e h = let P : ℕ × Machine → Type 0 = λ x. Does (act x.0 x.1) old new y in subst P e h

-- the location at the address that a step of a register yields is found without any exchange
pub stepped_comes : (d : Devices) (to came : ℕ × Machine) → came ≡ to
    → Does (in_memory to to.1) d d (Ok (InMemory came.0), came.1)
stepped_comes d to came e =
    let into : ℕ × Machine → Result OperandLocation Abort × Machine = λ x. (Ok (InMemory x.0), x.1) in comes d _ _ (ap into e)

pub store_result_at : (location : OperandLocation) (size : Size) (computed computed' : Computed) (m : Machine) (old new : Devices)
    (y : Result (Unit {0}) Abort × Machine) → computed' ≡ computed → Does (store_result location size computed' m) old new y
    → Does (store_result location size computed m) old new y
store_result_at location size computed computed' m old new y e h =
    let P : Computed → Type 0 = λ x. Does (store_result location size x m) old new y in subst P e h

pub push_at : (word word' : ℕ) (m : Machine) (old new : Devices) (y : Result (Unit {0}) Abort × Machine)
    → word' ≡ word → Does (push word' m) old new y → Does (push word m) old new y
push_at word word' m old new y e h = let P : ℕ → Type 0 = λ x. Does (push x m) old new y in subst P e h

pub change_exclusive_at : (source source' : ℕ) (location : OperandLocation) (m : Machine) (old new : Devices)
    (y : Result (Unit {0}) Abort × Machine) → source' ≡ source → Does (change_exclusive source' location m) old new y
    → Does (change_exclusive source location m) old new y
change_exclusive_at source source' location m old new y e h =
    let P : ℕ → Type 0 = λ x. Does (change_exclusive x location m) old new y in subst P e h

-- the rules for calls with one device, and for calls with both
pub ruleset dialogues = (
  store_result_at,
  push_at,
  comes_ok,
  comes,
  comes_aborted,
  value_does,
  bind_does,
  bind_aborts,
  if_so,
  if_not,
  if_so_by,
  if_not_by,
)

pub ruleset with_both = (
  dialogues,
  change_exclusive_at,
  bind_reads,
  bind_reads_aborts,
  bind_writes,
  bind_writes_aborts,
  reads_beside,
  writes_beside,
)

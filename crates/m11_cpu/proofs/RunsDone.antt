-- Runs, step by step.
use Rattle.std.proofs.Common.{◌≡◌, ℕ, zero, suc, ◌+◌, ◌-◌, ◌<◌, ◌≤◌, refl, sym, subst, arith}
use Rattle.m11_cpu_machine.specs.declared.machine.Machine.{Machine}
use Rattle.m11_cpu.specs.declared.runs.Ran.{Ran}
use Rattle.m11_cpu_machine.specs.declared.stop.Stop.{Stop}
use Rattle.m11_cpu_machine.specs.declared.stop.Stop.TheVariants.{Limit}
use Rattle.m11_cpu_machine.specs.declared.stop.Turn.{Turn}
use Rattle.m11_cpu_machine.specs.declared.stop.Turn.TheVariants.{Next, Stopped}
use Rattle.m11_cpu_machine.specs.Dialogue.{Comes, Devices, Dialogue, Does}
use Rattle.m11_cpu_quick.specs.Quick.{StepsAtOnce}
use Rattle.m11_cpu.specs.Runs.{run, run_counted}
use Rattle.m11_cpu_machine.specs.Steps.{step}
use Rattle.m11_cpu_machine.proofs.Dialogues.{comes, then_does}

abbrev pub ran : Stop → ℕ → Ran
ran stop steps = record { stop = stop; steps = steps }

-- `done` steps and a rest of the run after them make the whole run, which has the stop of the rest and `done` more steps
abbrev pub GoesOn : ℕ → ℕ → Machine → Machine → Devices → Devices → Type 0
GoesOn limit done m m' old middle = (stop : Stop) (steps : ℕ) (new : Devices) (n : Machine)
    → Does (run_counted (limit - done) m') middle new (ran stop steps, n)
    → Does (run_counted limit m) old new (ran stop (done + steps), n)

pub begins : (limit : ℕ) (m : Machine) (old : Devices) → GoesOn limit 0 m m old old
begins limit m old stop steps new n h =
    let P : ℕ → Type 0 = λ k. Does (run_counted limit m) old new (ran stop k, n) in
    let e : steps ≡ 0 + steps = omega arith in
    let Q : ℕ → Type 0 = λ k. Does (run_counted k m) old new (ran stop steps, n) in
    let f : limit - 0 ≡ limit = omega arith in
    subst P e (subst Q f h)

run_next : (left : ℕ) (m m' n : Machine) (old middle new : Devices) (stop : Stop) (steps : ℕ)
    → Does (step m) old middle (Next, m') → Does (run_counted left m') middle new (ran stop steps, n)
    → Does (run_counted (suc left) m) old new (ran stop (steps + 1), n)
unfolding run_counted
run_next left m m' n old middle new stop steps h k =
    then_does (step m) _ old middle new (Next, m') _ h
    (then_does (run_counted left m') _ middle new new (ran stop steps, n) _ k (comes new _ _ refl))

run_stops : (left : ℕ) (m m' : Machine) (old new : Devices) (stop : Stop) → Does (step m) old new (Stopped stop, m')
    → Does (run_counted (suc left) m) old new (ran stop 1, m')
unfolding run_counted
run_stops left m m' old new stop h = then_does (step m) _ old new new (Stopped stop, m') _ h (comes new _ _ refl)

run_ends : (m : Machine) (d : Devices) → Does (run_counted 0 m) d d (ran Limit 0, m)
unfolding run_counted
run_ends m d = comes d _ _ refl

pub goes_on : (limit done : ℕ) (m m' m'' : Machine) (old middle later : Devices) → done < limit
    → GoesOn limit done m m' old middle → Does (step m') middle later (Next, m'')
    → GoesOn limit (done + 1) m m'' old later
goes_on limit done m m' m'' old middle later lt i h stop steps new n k =
    let e : limit - done ≡ suc (limit - (done + 1)) = omega arith in
    let P : ℕ → Type 0 = λ left. Does (run_counted left m') middle new (ran stop (steps + 1), n) in
    let whole =
    i stop (steps + 1) new n
    (subst P (sym e) (run_next (limit - (done + 1)) m' m'' n middle later new stop steps h k)) in
    let Q : ℕ → Type 0 = λ all. Does (run_counted limit m) old new (ran stop all, n) in
    let f : done + (steps + 1) ≡ done + 1 + steps = omega arith in
    subst Q f whole

at_once_does : (m n : Machine) (d : Devices) → step m ≡ Comes (Next, n) → Does (step m) d d (Next, n)
at_once_does m n d e =
    let P : Dialogue (Turn × Machine) → Type 0 = λ x. Does x d d (Next, n) in subst P (sym e) (comes d _ _ refl)

-- if `GoesOn` holds after `done` steps, it also holds after `quick` further steps that exchange nothing, within the limit
pub quick_goes_on : (limit done quick : ℕ) (m m' m'' : Machine) (old middle : Devices) → done + quick ≤ limit
    → GoesOn limit done m m' old middle → StepsAtOnce quick m' m'' → GoesOn limit (done + quick) m m'' old middle
unfolding StepsAtOnce
quick_goes_on limit done zero m m' m'' old middle le i s =
    let P : ℕ → Type 0 = λ k. GoesOn limit k m m'' old middle in
    let Q : Machine → Type 0 = λ x. GoesOn limit done m x old middle in
    let e : done ≡ done + zero = omega arith in
    subst P e (subst Q (sym s) i)
quick_goes_on limit done (suc quick) m m' m'' old middle le i s =
    let P : ℕ → Type 0 = λ k. GoesOn limit k m m'' old middle in
    let e : done + quick + 1 ≡ done + suc quick = omega arith in
    let below : done + quick < limit = omega arith in
    let most : done + quick ≤ limit = omega arith in
    let before = quick_goes_on limit done quick m m' s.0 old middle most i s.1 in
    subst P e (goes_on limit (done + quick) m s.0 m'' old middle middle below before (at_once_does s.0 m'' middle s.2))

pub begins_quickly : (limit quick : ℕ) (m m' : Machine) (old : Devices) → quick ≤ limit → StepsAtOnce quick m m'
    → GoesOn limit quick m m' old old
begins_quickly limit quick m m' old le s =
    let P : ℕ → Type 0 = λ k. GoesOn limit k m m' old old in
    let e : 0 + quick ≡ quick = omega arith in
    subst P e (quick_goes_on limit 0 quick m m m' old old (omega (arith, le)) (begins limit m old) s)

pub stops : (limit done : ℕ) (m m' m'' : Machine) (old middle new : Devices) (stop : Stop) → done < limit
    → GoesOn limit done m m' old middle → Does (step m') middle new (Stopped stop, m'')
    → Does (run_counted limit m) old new (ran stop (done + 1), m'')
stops limit done m m' m'' old middle new stop lt i h =
    let e : limit - done ≡ suc (limit - (done + 1)) = omega arith in
    let P : ℕ → Type 0 = λ left. Does (run_counted left m') middle new (ran stop 1, m'') in
    i stop 1 new m'' (subst P (sym e) (run_stops (limit - (done + 1)) m' m'' middle new stop h))

pub ends : (limit done : ℕ) (m m' : Machine) (old new : Devices) → limit ≡ done → GoesOn limit done m m' old new
    → Does (run_counted limit m) old new (ran Limit limit, m')
ends limit done m m' old new e i =
    let z : limit - done ≡ 0 = omega arith in
    let P : ℕ → Type 0 = λ left. Does (run_counted left m') new new (ran Limit 0, m') in
    let Q : ℕ → Type 0 = λ all. Does (run_counted limit m) old new (ran Limit all, m') in
    let f : done + 0 ≡ limit = omega arith in
    subst Q f (i Limit 0 new m' (subst P (sym z) (run_ends m' new)))

pub run_reported : (limit : ℕ) (m m' : Machine) (old new : Devices) (r : Ran) → Does (run_counted limit m) old new (r, m')
    → Does (run limit m) old new (r.stop, m')
unfolding run
run_reported limit m m' old new r h = then_does (run_counted limit m) _ old new new (r, m') _ h (comes new _ _ refl)

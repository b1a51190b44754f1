-- Steps that were made one after another are those of a run.
use Rattle.std.proofs.Common.{◌≡◌, ℕ, suc, ◌+◌, ◌<◌, ◌≤◌, List, [], ◌∷◌, length, refl, sym, subst, arith}
use Rattle.m11_cpu_machine.specs.Dialogue.{Devices, Does}
use Rattle.m11_cpu_machine.specs.Steps.{step}
use Rattle.m11_cpu_machine.specs.declared.machine.Machine.{Machine}
use Rattle.m11_cpu_machine.specs.declared.stop.Stop.{Stop}
use Rattle.m11_cpu_machine.specs.declared.stop.Stop.TheVariants.{Limit}
use Rattle.m11_cpu_machine.specs.declared.stop.Turn.{Turn}
use Rattle.m11_cpu_machine.specs.declared.stop.Turn.TheVariants.{Next, Stopped}
use Rattle.m11_cpu.specs.Runs.{run_counted}
use Rattle.m11_cpu.proofs.RunsDone.{GoesOn, begins, ends, goes_on, ran, stops}
use Rattle.m11_trace.specs.Taken.{Follow, TracedStep, Yielded}

-- after steps of which the latest yielded `Next`, a run within its limit goes on
pub gone : (limit : ℕ) (taken : List TracedStep) (m m' : Machine) (old new : Devices) → length taken ≤ limit → Follow m old taken m' new
    → Yielded Next taken → GoesOn limit (length taken) m m' old new
gone limit [] m m' old new le f next =
    let P : Machine → Type 0 = λ n. GoesOn limit 0 m n old new in
    let Q : Devices → Type 0 = λ d. GoesOn limit 0 m m old d in
    subst P (sym f.0) (subst Q (sym f.1) (begins limit m old))
gone limit (last ∷ earlier) m m' old new le f next =
    let P : Machine → Type 0 = λ n. GoesOn limit (suc (length earlier)) m n old new in
    let Q : Turn → Type 0 = λ t. Does (step last.before) f.0 new (t, last.later) in
    let N : ℕ → Type 0 = λ n. GoesOn limit n m last.later old new in
    let below : length earlier < limit = omega (arith, le) in
    let most : length earlier ≤ limit = omega (arith, le) in
    let before = gone limit earlier m last.before old f.0 most f.1 f.2 in
    let one : length earlier + 1 ≡ suc (length earlier) = omega arith in
    let whole = goes_on limit (length earlier) m last.before last.later old f.0 new below before (subst Q next f.3) in
    subst P (sym f.4) (subst N one whole)

-- if the latest of these steps yielded `Next`, they are those of a run with as many steps as its limit
pub runs_out : (taken : List TracedStep) (m m' : Machine) (old new : Devices) → Follow m old taken m' new → Yielded Next taken
    → Does (run_counted (length taken) m) old new (ran Limit (length taken), m')
runs_out taken m m' old new f next =
    ends (length taken) (length taken) m m' old new refl
    (gone (length taken) taken m m' old new (omega arith) f next)

no_stop : (stop : Stop) (X : Type 0) → Stopped stop ≡ Next → X
no_stop stop X e = absurd cc

-- if the latest of these steps stopped, they are those of a run with this limit
pub runs_stop : (limit : ℕ) (stop : Stop) (taken : List TracedStep) (m m' : Machine) (old new : Devices) → length taken ≤ limit
    → Follow m old taken m' new → Yielded (Stopped stop) taken
    → Does (run_counted limit m) old new (ran stop (length taken), m')
runs_stop limit stop [] m m' old new le f by = no_stop stop _ by
runs_stop limit stop (last ∷ earlier) m m' old new le f by =
    let P : Machine → Type 0 = λ n. Does (run_counted limit m) old new (ran stop (suc (length earlier)), n) in
    let Q : Turn → Type 0 = λ t. Does (step last.before) f.0 new (t, last.later) in
    let N : ℕ → Type 0 = λ n. Does (run_counted limit m) old new (ran stop n, last.later) in
    let below : length earlier < limit = omega (arith, le) in
    let most : length earlier ≤ limit = omega (arith, le) in
    let before = gone limit earlier m last.before old f.0 most f.1 f.2 in
    let one : length earlier + 1 ≡ suc (length earlier) = omega arith in
    let whole = stops limit (length earlier) m last.before last.later old f.0 new stop below before (subst Q by f.3) in
    subst P (sym f.4) (subst N one whole)

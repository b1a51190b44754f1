-- How far steps with lines have come, and how they end.
use Rattle.std.proofs.Common.{◌≡◌, ◌∙◌, ℕ, zero, suc, ◌+◌, ◌<◌, ◌≤◌, true, false, cond, List, [], ◌∷◌, ◌++◌, length, map, take, drop, append-nil, append_assoc, Option, Some, None, Err, refl, sym, subst, ap, arith}
use Rattle.std.specs.Io.KnownBytes.{Appends}
use Rattle.m11_base.specs.Devices.{Rises}
use Rattle.m11_base.specs.Sink.{AppendsPrefix}
use Rattle.m11_base.proofs.Known.{Appends-Appends}
use Rattle.m11_cpu.specs.Messages.{PutsMessages}
use Rattle.m11_cpu.specs.Runs.{run_counted}
use Rattle.m11_cpu.proofs.RunsDone.{ran}
use Rattle.m11_cpu.specs.declared.fault.SimFault.{SimFault}
use Rattle.m11_cpu.specs.declared.fault.SimFault.TheVariants.{Load, Write, NoMemory}
use Rattle.m11_cpu_machine.specs.Dialogue.{Devices, Does, Output}
use Rattle.m11_cpu_machine.specs.Steps.{step}
use Rattle.m11_cpu_machine.specs.declared.machine.Machine.{Machine}
use Rattle.m11_cpu_machine.specs.declared.stop.Stop.{Stop}
use Rattle.m11_cpu_machine.specs.declared.stop.Stop.TheVariants.{Limit}
use Rattle.m11_cpu_machine.specs.declared.stop.Turn.{Turn}
use Rattle.m11_cpu_machine.specs.declared.stop.Turn.TheVariants.{Next, Stopped}
use Rattle.m11_trace.specs.Lines.{step_line}
use Rattle.m11_trace.specs.Shots.{shot_of}
use Rattle.m11_trace.specs.Stepping.{StepsWithLines}
use Rattle.m11_trace.specs.Taken.{Follow, TracedStep, Yielded, kept, line_from, lines_from}
use Rattle.m11_trace.specs.Stops.{AreElsewhere, AreQuiet, change_by, first_address, goes_on, is_at, is_counted_change}
use Rattle.m11_trace.specs.Tracing.{Goes}
use Rattle.m11_trace.specs.declared.ending.Ending.{Ending}
use Rattle.m11_trace.specs.declared.ending.Ending.TheVariants as ending
use Rattle.m11_trace.specs.declared.shots.Shot.{Shot}
use Rattle.m11_trace.specs.declared.stops.Stops.{Stops}
use Rattle.m11_trace.specs.Known.{Known}
use Rattle.m11_trace.proofs.Following.{runs_out, runs_stop}

-- ---- texts

pub appends_nothing : (text : Option (List ℕ)) → Appends text text []
appends_nothing None = tt
appends_nothing (Some text) = sym (append-nil text)

-- if a text and then a prefix of a second one were written, a prefix of both together was
pub begins_after : (a b c : Option (List ℕ)) (first second : List ℕ) → Appends a b first → AppendsPrefix b c second
    → AppendsPrefix a c (first ++ second)
begins_after a b c first second h k =
    let whole = ap (λ (t : List ℕ). first ++ t) k.2 ∙ sym (append_assoc first k.0 k.1) in
    (first ++ k.0, k.1, whole, Appends-Appends a b c first k.0 h k.3)

-- a prefix of the first part is a prefix of the whole
pub begins_whole : (a b : Option (List ℕ)) (first second : List ℕ) → AppendsPrefix a b first
    → AppendsPrefix a b (first ++ second)
begins_whole a b first second k =
    (k.0, k.1 ++ second, ap (λ (t : List ℕ). t ++ second) k.2 ∙ append_assoc k.0 k.1 second, k.3)

-- ---- the last steps

take_less : {X : Type 0} (n : ℕ) (xs : List X) → take n (take (suc n) xs) ≡ take n xs
take_less zero xs = refl
take_less (suc n) [] = refl
take_less {X = X} (suc n) (x ∷ xs) = ap (λ (t : List X). x ∷ t) (take_less n xs)

take_again : {X : Type 0} (n : ℕ) (x : X) (xs : List X) → take n (x ∷ take n xs) ≡ take n (x ∷ xs)
take_again zero x xs = refl
take_again {X = X} (suc n) x xs = ap (λ (t : List X). x ∷ t) (take_less n xs)

none_taken : {X : Type 0} (n : ℕ) (xs : List X) → xs ≡ [] → take n xs ≡ []
none_taken zero xs e = refl
none_taken {X = X} (suc n) xs e = ap (λ (t : List X). take (suc n) t) e

-- of no steps none is kept
pub take_none : (last : ℕ) → take last (map kept []) ≡ []
take_none last = none_taken last (map kept []) refl

-- the last steps are those that fit into a buffer of this capacity
pub kept_by : (capacity last : ℕ) (recent shots : List Shot) → capacity ≡ last → recent ≡ take capacity shots → recent ≡ take last shots
kept_by capacity last recent shots same is = is ∙ ap (λ (n : ℕ). take n shots) same

-- ---- how far the steps have come

-- these steps were made, listed latest first; the latest yielded this result, and no other step stopped the run by
-- changing a watched word
pub record Going (limit count : ℕ) (stops : Stops) (m m' : Machine) (old new : Devices) (turn : Turn) (taken : List TracedStep)
    : Type 0 where
  pub steps : Follow m old taken m' new
  pub yielded : Yielded turn taken
  pub elsewhere : AreElsewhere stops taken
  pub quiet : AreQuiet stops (drop 1 taken)
  pub long : count ≡ length taken
  pub within : count ≤ limit

-- the lines of these steps were written, and the last `last` steps are recorded
pub record Shown (known : Known) (first last : ℕ) (taken : List TracedStep) (recent : List Shot) (output output' : Output) : Type 0 where
  pub kept : recent ≡ take last (map kept taken)
  pub text : Appends output.text output'.text (lines_from known first taken)
  pub faults : output'.faults ≡ output.faults

pub none_made : (limit : ℕ) (stops : Stops) (m : Machine) (old : Devices) → Going limit 0 stops m m old old Next []
none_made limit stops m old = record {
  steps = (refl, refl);
  yielded = refl;
  elsewhere = tt;
  quiet = tt;
  long = refl;
  within = omega arith;
}

pub none_shown : (known : Known) (first last : ℕ) (recent : List Shot) (output : Output) → recent ≡ []
    → Shown known first last [] recent output output
none_shown known first last recent output e = record { kept = e ∙ sym (take_none last); text = appends_nothing output.text; faults = refl }

abbrev pub made : Machine → Turn → Machine → TracedStep
made before turn later = record { before = before; turn = turn; later = later }

module _ (limit count : ℕ) (stops : Stops) (m m' : Machine) (old middle : Devices) (taken : List TracedStep)
    (g : Going limit count stops m m' old middle Next taken) (quiet : AreQuiet stops taken) where
  -- if one more step is made before the limit, and not at a breakpoint that stops the run, it is the latest of the steps
  pub one_made : (m'' : Machine) (new : Devices) (turn : Turn) → count < limit → is_at stops taken m' ≡ false
      → Does (step m') middle new (turn, m'')
      → Going limit (count + 1) stops m m'' old new turn (made m' turn m'' ∷ taken)
  one_made m'' new turn lt away does = record {
    steps = (middle, g.steps, g.yielded, does, refl);
    yielded = refl;
    elsewhere = (away, g.elsewhere);
    quiet = quiet;
    long = omega (arith, g.long);
    within = omega arith;
  }

  -- if the limit is reached, the steps end with `Limit`
  pub at_limit : limit ≤ count → Goes (λ n. run_counted n m) limit stops m old taken (ending.Stopped Limit) m' middle
  at_limit le =
      let same : length taken ≡ limit = omega (arith, g.long, g.within) in
      let P : ℕ → Type 0 = λ n. Does (run_counted n m) old middle (ran Limit (length taken), m') in
      record {
        steps = g.steps;
        elsewhere = g.elsewhere;
        quiet = quiet;
        ends = tt;
        runs = subst P same (runs_out taken m m' old middle g.steps g.yielded);
      }

  pub at_place : count < limit → is_at stops taken m' ≡ true → Goes (λ n. run_counted n m) limit stops m old taken ending.Reached m' middle
  at_place lt there = record {
    steps = g.steps;
    elsewhere = g.elsewhere;
    quiet = quiet;
    ends = (omega (arith, g.long), there);
    runs = runs_out taken m m' old middle g.steps g.yielded;
  }

-- if the latest step stops the run by changing a watched word, the steps end with `Changed` and its address
pub at_change : (limit count : ℕ) (stops : Stops) (m m' : Machine) (old new : Devices) (latest : TracedStep) (earlier : List TracedStep)
    → Going limit count stops m m' old new Next (latest ∷ earlier) → (address : ℕ) → change_by stops earlier latest ≡ Some address
    → Goes (λ n. run_counted n m) limit stops m old (latest ∷ earlier) (ending.Changed address) m' new
at_change limit count stops m m' old new latest earlier g address changed = record {
  steps = g.steps;
  elsewhere = g.elsewhere;
  quiet = g.quiet;
  ends = (omega (arith, g.long, g.within), changed);
  runs = runs_out (latest ∷ earlier) m m' old new g.steps g.yielded;
}

-- a step that stopped the machine doesn't stop the run by changing a watched word
stopped_quiet : (stops : Stops) (stop : Stop) (taken : List TracedStep) → Yielded (Stopped stop) taken
    → AreQuiet stops (drop 1 taken) → AreQuiet stops taken
stopped_quiet stops stop [] by h = tt
stopped_quiet stops stop (latest ∷ earlier) by h =
    (ap (λ (t : Turn). cond (goes_on t) (first_address (is_counted_change earlier latest) stops.watched.items) None) by, h)

pub at_stop : (limit count : ℕ) (stops : Stops) (m m' : Machine) (old new : Devices) (stop : Stop) (taken : List TracedStep)
    → Going limit count stops m m' old new (Stopped stop) taken → Goes (λ n. run_counted n m) limit stops m old taken (ending.Stopped stop) m' new
at_stop limit count stops m m' old new stop taken g = record {
  steps = g.steps;
  elsewhere = g.elsewhere;
  quiet = stopped_quiet stops stop taken g.yielded g.quiet;
  ends = tt;
  runs = runs_stop limit stop taken m m' old new (omega (arith, g.long, g.within)) g.steps g.yielded;
}

-- if the machine goes on after the latest step, the steps are those of a traced run with this limit or a lower one, whether or not that step
-- stops the run by changing a watched word
at_next : (limit count : ℕ) (stops : Stops) (m m' : Machine) (old new : Devices) (latest : TracedStep) (earlier : List TracedStep)
    → Going limit count stops m m' old new Next (latest ∷ earlier) → (changed : Option ℕ) → change_by stops earlier latest ≡ changed
    → (most : ℕ) × (most ≤ limit) × (e : Ending) × Goes (λ n. run_counted n m) most stops m old (latest ∷ earlier) e m' new
at_next limit count stops m m' old new latest earlier g (Some address) is =
    (limit, omega arith, ending.Changed address, at_change limit count stops m m' old new latest earlier g address is)
at_next limit count stops m m' old new latest earlier g None is =
    let all = latest ∷ earlier in
    let at : Going (length all) count stops m m' old new Next all = record {
      steps = g.steps;
      yielded = g.yielded;
      elsewhere = g.elsewhere;
      quiet = g.quiet;
      long = g.long;
      within = omega (arith, g.long);
    } in (
      length all,
      omega (arith, g.long, g.within),
      ending.Stopped Limit,
      at_limit (length all) count stops m m' old new all at (is, g.quiet) (omega (arith, g.long)),
    )

-- whatever the latest step yielded, the steps are those of a traced run with this limit or a lower one
pub at_any : (limit count : ℕ) (stops : Stops) (m m' : Machine) (old new : Devices) (turn : Turn) (latest : TracedStep) (earlier : List TracedStep)
    → Going limit count stops m m' old new turn (latest ∷ earlier)
    → (most : ℕ) × (most ≤ limit) × (e : Ending) × Goes (λ n. run_counted n m) most stops m old (latest ∷ earlier) e m' new
at_any limit count stops m m' old new Next latest earlier g =
    at_next limit count stops m m' old new latest earlier g (change_by stops earlier latest) refl
at_any limit count stops m m' old new (Stopped stop) latest earlier g =
    (limit, omega arith, ending.Stopped stop, at_stop limit count stops m m' old new stop (latest ∷ earlier) g)

-- ---- steps with their lines

module _ (known : Known) (first last : ℕ) (taken : List TracedStep) (recent : List Shot) (output middle : Output) (s : Shown known first last taken recent output middle) where
  line_of : (m m'' : Machine) (turn : Turn) (count : ℕ) (line : List ℕ) → count ≡ length taken
      → line ≡ line_from first (count + 1) (step_line known (count + 1) m m'')
      → lines_from known first taken ++ line ≡ lines_from known first (made m turn m'' ∷ taken)
  line_of m m'' turn count line long is =
      let one : count + 1 ≡ suc (length taken) = omega (arith, long) in
      let to : ℕ → List ℕ = λ n. line_from first n (step_line known n m m'') in
      ap (λ (t : List ℕ). lines_from known first taken ++ t) (is ∙ ap to one)

  pub one_shown : (m m'' : Machine) (turn : Turn) (count : ℕ) (shot : Shot) (line : List ℕ) (recent' : List Shot)
      (output' : Output) → count ≡ length taken → shot ≡ shot_of m m'' → recent' ≡ take last (shot ∷ recent)
      → line ≡ line_from first (count + 1) (step_line known (count + 1) m m'') → Appends middle.text output'.text line
      → output'.faults ≡ middle.faults
      → Shown known first last (made m turn m'' ∷ taken) recent' output output'
  one_shown m m'' turn count shot line recent' output' long is kept_is line_is text faults =
      let P : List ℕ → Type 0 = λ t. Appends output.text output'.text t in
      let Q : List Shot → Type 0 = λ r. recent' ≡ take last (shot ∷ r) in
      let R : Shot → Type 0 = λ x. recent' ≡ take last (x ∷ map kept taken) in
      record {
        kept = subst R is (subst Q s.kept kept_is ∙ take_again last shot (map kept taken));
        text = subst P (line_of m m'' turn count line long line_is)
            (Appends-Appends output.text middle.text output'.text (lines_from known first taken) _ s.text text);
        faults = faults ∙ s.faults;
      }

  pub part_shown : (m m'' : Machine) (turn : Turn) (count : ℕ) (line : List ℕ) (output' : Output)
      → count ≡ length taken → line ≡ line_from first (count + 1) (step_line known (count + 1) m m'')
      → AppendsPrefix middle.text output'.text line → Rises middle.faults output'.faults
      → AppendsPrefix output.text output'.text (lines_from known first (made m turn m'' ∷ taken))
      × Rises output.faults output'.faults
  part_shown m m'' turn count line output' long line_is text faults =
      let P : List ℕ → Type 0 = λ t. AppendsPrefix output.text output'.text t in
      let Q : ℕ → Type 0 = λ n. Rises n output'.faults in (
        subst P (line_of m m'' turn count line long line_is)
            (begins_after output.text middle.text output'.text (lines_from known first taken) _ s.text text),
        subst Q s.faults faults,
      )

-- if the line of a step can't be written whole, the steps end with that fault
pub not_put : (limit count : ℕ) (known : Known) (first last : ℕ) (stops : Stops) (m m' m'' : Machine) (old middle new : Devices) (taken : List TracedStep)
    (recent recent' : List Shot) (output held output' : Output) (turn : Turn) (line : List ℕ) (fault : SimFault)
    → Going limit count stops m m' old middle Next taken → AreQuiet stops taken
    → Shown known first last taken recent output held → count < limit → is_at stops taken m' ≡ false → Does (step m') middle new (turn, m'')
    → line ≡ line_from first (count + 1) (step_line known (count + 1) m' m'')
    → PutsMessages {A = Unit {0}} held.text output'.text held.faults output'.faults line (Err fault)
    → StepsWithLines (λ n. run_counted n m) limit known first last stops m m'' old new output output' recent' (Err fault)
not_put limit count known first last stops m m' m'' old middle new taken recent recent' output held output' turn line Write g quiet s lt away does is p =
    let more = one_made limit count stops m m' old middle taken g quiet m'' new turn lt away does in
    let any = at_any limit (count + 1) stops m m'' old new turn (made m' turn m'') taken more in
    let part = part_shown known first last taken recent output held s m' m'' turn count line output' g.long is p.0 p.1 in
    (any.0, any.1, any.2, made m' turn m'' ∷ taken, any.3, part.0, part.1)
not_put limit count known first last stops m m' m'' old middle new taken recent recent' output held output' turn line NoMemory g quiet s lt away does is p =
    absurd p
not_put limit count known first last stops m m' m'' old middle new taken recent recent' output held output' turn line (Load f) g quiet s lt away does is p =
    absurd p

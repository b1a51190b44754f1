-- Breakpoints that are counted down while steps are made.
use Rattle.std.proofs.Common.{◌≡◌, ◌∙◌, ℕ, ◌+◌, ◌-◌, Bool, true, false, eqb, ◌&&◌, ◌||◌, List, [], ◌∷◌, map, refl, sym, ap, ap₂, arith}
use Rattle.std.specs.List.{list_any}
use Rattle.std.proofs.lemmas.Bool.{eq-eqb, eqb-false, eqb-true, ne_eqb}
use Rattle.m11_cpu_machine.specs.declared.machine.Machine.{Machine}
use Rattle.m11_trace.specs.Shots.{counter_of}
use Rattle.m11_trace.specs.Stops.{counted_at, is_at, is_due, is_last_at, times_at}
use Rattle.m11_trace.specs.Taken.{TracedStep}
use Rattle.m11_trace.specs.declared.stops.CountedAddress.{CountedAddress}
use Rattle.m11_trace.specs.declared.stops.Stops.{Stops}

-- a breakpoint after these steps: its count is lowered by the number of steps that began at its address
abbrev pub left_of : List TracedStep → CountedAddress → CountedAddress
left_of taken breakpoint = record breakpoint { count = breakpoint.count - times_at breakpoint.address taken }

pub none_counted : (breakpoints : List CountedAddress) → breakpoints ≡ map (left_of []) breakpoints
none_counted [] = refl
none_counted (breakpoint ∷ breakpoints) =
    let whole : breakpoint.count ≡ breakpoint.count - 0 = omega arith in
    ap₂ (λ (n : ℕ) (bs : List CountedAddress). record breakpoint { count = n } ∷ bs) whole (none_counted breakpoints)

-- one time remains of a count if and only if the count is one more than the times so far
pub one_left : (count times : ℕ) (last : Bool) → eqb (times + 1) count ≡ last → eqb (count - times) 1 ≡ last
one_left count times true is =
    let whole = eqb-true (times + 1) count is in
    eq-eqb (count - times) 1 (omega (arith, whole))
one_left count times false is =
    let other = eqb-false (times + 1) count is in
    ne_eqb (count - times) 1 (λ e. other (omega (arith, e)))

-- the waiting breakpoints stop the run exactly where the definition says that the breakpoints do
pub due_is : (taken : List TracedStep) (m : Machine) (breakpoints : List CountedAddress)
    → list_any (is_last_at (counter_of m)) (map (left_of taken) breakpoints) ≡ list_any (is_due taken m) breakpoints
due_is taken m [] = refl
due_is taken m (breakpoint ∷ breakpoints) =
    let times = times_at breakpoint.address taken in
    let here : Bool → Bool = λ last. eqb breakpoint.address (counter_of m) && last in
    ap₂ (λ (x y : Bool). here x || y) (one_left breakpoint.count times (eqb (times + 1) breakpoint.count) refl) (due_is taken m breakpoints)

-- after one more step, a waiting breakpoint is the one counted down at the step's address
one_less : (step : TracedStep) (earlier : List TracedStep) (breakpoint : CountedAddress) (here : Bool)
    → eqb breakpoint.address (counter_of step.before) ≡ here
    → counted_at (counter_of step.before) (left_of earlier breakpoint) ≡ left_of (step ∷ earlier) breakpoint
one_less step earlier breakpoint true is =
    let fewer : breakpoint.count - times_at breakpoint.address earlier - 1 ≡ breakpoint.count - (times_at breakpoint.address earlier + 1) = omega arith in
    rw is (ap (λ (n : ℕ). record breakpoint { count = n }) fewer)
one_less step earlier breakpoint false is =
    let same : breakpoint.count - times_at breakpoint.address earlier ≡ breakpoint.count - (times_at breakpoint.address earlier + 0) = omega arith in
    rw is (ap (λ (n : ℕ). record breakpoint { count = n }) same)

pub one_counted : (step : TracedStep) (earlier : List TracedStep) (breakpoints : List CountedAddress)
    → map (counted_at (counter_of step.before)) (map (left_of earlier) breakpoints) ≡ map (left_of (step ∷ earlier)) breakpoints
one_counted step earlier [] = refl
one_counted step earlier (breakpoint ∷ breakpoints) =
    ap₂ (λ (b : CountedAddress) (bs : List CountedAddress). b ∷ bs)
    (one_less step earlier breakpoint (eqb breakpoint.address (counter_of step.before)) refl) (one_counted step earlier breakpoints)

-- `waiting` holds the breakpoints as they wait after some steps
module _ (earlier : List TracedStep) (stops : Stops) (waiting : List CountedAddress)
    (left : waiting ≡ map (left_of earlier) stops.breakpoints.items) (address : ℕ) where
  -- whether a waiting breakpoint is due is whether the run stops here
  pub stops_at : (m : Machine) (due test : Bool) → address ≡ counter_of m → due ≡ list_any (is_last_at address) waiting → due ≡ test
      → is_at stops earlier m ≡ test
  stops_at m due test is here tested =
      let to : ℕ → List CountedAddress → Bool = λ n bs. list_any (is_last_at n) bs in
      sym (due_is earlier m stops.breakpoints.items) ∙ sym (here ∙ ap₂ to is left) ∙ tested

  -- after one more step, the waiting breakpoints are those counted down at its address
  pub counts_on : (step : TracedStep) (later : List CountedAddress) → address ≡ counter_of step.before
      → later ≡ map (counted_at address) waiting → later ≡ map (left_of (step ∷ earlier)) stops.breakpoints.items
  counts_on step later is counted =
      let to : ℕ → List CountedAddress → List CountedAddress = λ n bs. map (counted_at n) bs in
      counted ∙ ap₂ to is left ∙ one_counted step earlier stops.breakpoints.items

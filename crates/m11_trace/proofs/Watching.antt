-- Watched words whose changes are counted down while steps are made.
use Rattle.std.proofs.Common.{◌≡◌, ◌∙◌, ℕ, ◌+◌, ◌-◌, ◌<◌, ◌≤◌, Bool, true, false, cond, eqb, ◌&&◌, List, [], ◌∷◌, ◌++◌, append-nil, append_assoc, drop, get_or, length, map, set, take, Option, Some, refl, sym, ap, ap₂, arith}
use Rattle.std.proofs.lemmas.Bool.{eqb-true}
use Rattle.std.proofs.lemmas.List.{drop_all, drop_more, length-map, length-take, map_more, set_at, take_all}
use Rattle.m11_cpu_machine.specs.declared.machine.Machine.{Machine}
use Rattle.m11_cpu_machine.specs.declared.stop.Turn.TheVariants.{Next}
use Rattle.m11_trace.specs.Stops.{change_by, changes_at, first_address, has_changed_at, is_counted_change, watched_word}
use Rattle.m11_trace.specs.Taken.{TracedStep}
use Rattle.m11_trace.specs.Watches.{stopping_address, watch_after, watch_of}
use Rattle.m11_trace.specs.declared.stops.CountedAddress.{CountedAddress}
use Rattle.m11_trace.specs.declared.stops.Stops.{Stops}
use Rattle.m11_trace.specs.declared.watches.Watch.{Watch}
use Rattle.m11_trace.proofs.Going.{made}
use Rattle.m11_trace.proofs.Waiting.{one_left}

-- a watched word after these steps, which left this memory: its count is lowered by the number of steps that changed it
abbrev pub after_steps : List TracedStep → List ℕ → CountedAddress → Watch
after_steps taken memory watched = record {
  address = watched.address;
  count = watched.count - changes_at watched.address taken;
  word = watched_word watched.address memory;
}

-- one more watched word is looked at before the first step
pub one_looked_at : (to : CountedAddress → Watch) (watched : List CountedAddress) (olds watches : List Watch) (i : ℕ) (x : CountedAddress)
    → i < length watched → length olds ≡ length watched → watches ≡ map to (take i watched) ++ drop i olds → x ≡ get_or watched i x
    → set watches i (to x) ≡ map to (take (i + 1) watched) ++ drop (i + 1) olds
one_looked_at to watched olds watches i x lt long are is =
    let none : Watch = record { address = 0; count = 0; word = 0 } in
    let front : List Watch = map to (take i watched) in
    let size : length front ≡ i = length-map (take i watched) to ∙ omega (arith, lt, length-take i watched) in
    let parts : watches ≡ front ++ get_or olds i none ∷ drop (i + 1) olds =
    are ∙ ap (λ (ws : List Watch). front ++ ws) (drop_more olds i none (omega (arith, lt, long))) in
    ap (λ (ws : List Watch). set ws i (to x)) parts ∙ set_at front (get_or olds i none) (drop (i + 1) olds) (to x) i size
    ∙ sym (append_assoc front (to x ∷ []) (drop (i + 1) olds))
    ∙ ap (λ (ws : List Watch). ws ++ drop (i + 1) olds)
    (ap (λ (y : CountedAddress). front ++ to y ∷ []) is ∙ sym (map_more to watched i x lt))

-- all watched words were looked at
pub all_looked_at : (to : CountedAddress → Watch) (watched : List CountedAddress) (olds watches : List Watch) (i : ℕ)
    → length watched ≤ i → length olds ≡ length watched → watches ≡ map to (take i watched) ++ drop i olds → watches ≡ map to watched
all_looked_at to watched olds watches i le long are =
    let whole = take_all i watched le in
    let none = drop_all i olds (omega (arith, le, long)) in
    are ∙ ap₂ (λ (ws : List CountedAddress) (os : List Watch). map to ws ++ os) whole none ∙ append-nil (map to watched)

pub none_changed : (memory : List ℕ) (watched : List CountedAddress)
    → map (watch_of memory) watched ≡ map (after_steps [] memory) watched
none_changed memory [] = refl
none_changed memory (first ∷ others) =
    let whole : first.count ≡ first.count - 0 = omega arith in
    let to : ℕ → List Watch → List Watch = λ n ws. record { address = first.address; count = n; word = watched_word first.address memory } ∷ ws in
    ap₂ to whole (none_changed memory others)

-- the watched words stop the run exactly where the definition says that they do
pub stops_by : (earlier : List TracedStep) (step : TracedStep) (watched : List CountedAddress)
    → stopping_address step.later.memory (map (after_steps earlier step.before.memory) watched)
    ≡ first_address (is_counted_change earlier step) watched
stops_by earlier step [] = refl
stops_by earlier step (first ∷ others) =
    let times = changes_at first.address earlier in
    let to : Bool → Option ℕ → Option ℕ = λ last more. cond (has_changed_at first.address step && last) (Some first.address) more in
    ap₂ to (one_left first.count times (eqb (times + 1) first.count) refl) (stops_by earlier step others)

-- after one more step, a watched word is the one whose change was counted
one_less : (earlier : List TracedStep) (step : TracedStep) (watched : CountedAddress) (same : Bool)
    → eqb (watched_word watched.address step.before.memory) (watched_word watched.address step.later.memory) ≡ same
    → watch_after step.later.memory (after_steps earlier step.before.memory watched)
    ≡ after_steps (step ∷ earlier) step.later.memory watched
one_less earlier step watched true is =
    let word = eqb-true (watched_word watched.address step.before.memory) (watched_word watched.address step.later.memory) is in
    let whole : watched.count - changes_at watched.address earlier ≡ watched.count - (changes_at watched.address earlier + 0) = omega arith in
    let to : ℕ → ℕ → Watch = λ n w. record { address = watched.address; count = n; word = w } in
    rw is (ap₂ to whole word)
one_less earlier step watched false is =
    let fewer : watched.count - changes_at watched.address earlier - 1 ≡ watched.count - (changes_at watched.address earlier + 1) = omega arith in
    let to : ℕ → Watch = λ n. record { address = watched.address; count = n; word = watched_word watched.address step.later.memory } in
    rw is (ap to fewer)

pub one_changed : (earlier : List TracedStep) (step : TracedStep) (watched : List CountedAddress)
    → map (watch_after step.later.memory) (map (after_steps earlier step.before.memory) watched)
    ≡ map (after_steps (step ∷ earlier) step.later.memory) watched
one_changed earlier step [] = refl
one_changed earlier step (first ∷ others) =
    let same = eqb (watched_word first.address step.before.memory) (watched_word first.address step.later.memory) in
    ap₂ (λ (w : Watch) (ws : List Watch). w ∷ ws) (one_less earlier step first same refl) (one_changed earlier step others)

-- `watches` holds the watched words as they are before a step to this machine
module _ (earlier : List TracedStep) (stops : Stops) (m m' : Machine) (watches : List Watch) (memory : List ℕ)
    (are : watches ≡ map (after_steps earlier m.memory) stops.watched.items) (is : memory ≡ m'.memory) where
  -- the address by which they stop the run is that of the definition
  pub change_is : (found : Option ℕ) → found ≡ stopping_address memory watches → change_by stops earlier (made m Next m') ≡ found
  change_is found by =
      let to : List ℕ → List Watch → Option ℕ = λ bytes ws. stopping_address bytes ws in
      sym (by ∙ ap₂ to is are ∙ stops_by earlier (made m Next m') stops.watched.items)

  -- after the step, they are those whose changes were counted
  pub watches_on : (later : List Watch) → later ≡ map (watch_after memory) watches
      → later ≡ map (after_steps (made m Next m' ∷ earlier) m'.memory) stops.watched.items
  watches_on later counted =
      let to : List ℕ → List Watch → List Watch = λ bytes ws. map (watch_after bytes) ws in
      counted ∙ ap₂ to is are ∙ one_changed earlier (made m Next m') stops.watched.items

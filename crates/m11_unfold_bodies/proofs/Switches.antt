-- Switches of a condition, and its end.
use Rattle.std.proofs.Common.{◌≡◌, ◌∙◌, ℕ, ◌+◌, ◌-◌, Bool, false, not, List, [], ◌∷◌, Option, Some, None, refl, sym, ap, subst, arith}
use Rattle.std.specs.Prelude.{◌||◌, if◌then◌else◌}
use Rattle.m11_unfold_bodies.specs.Conditions.{OpenConditions, closed, entering, is_live_in, is_live_inside, is_skipping, nested, past, switched, unnested}
use Rattle.m11_unfold_bodies.specs.Laws.{Entered, Inside, NoneSkipped, Nothing, OneSkipped, Past, Skipped, SkippedInside, Switch}
use Rattle.m11_unfold_bodies.specs.declared.conditions.OpenCondition.{OpenCondition}
use Rattle.m11_unfold_bodies.specs.declared.conditions.Part.{Part}
use Rattle.m11_unfold_bodies.proofs.Cases.{with_part, without_first}

abbrev as_open : List OpenCondition → ℕ → Bool → OpenConditions
as_open entered nested is_past = record { entered = entered; nested = nested; is_past = is_past }

-- whether the innermost condition holds, if there is one
abbrev innermost : List OpenCondition → Option Bool
innermost [] = None
innermost (condition ∷ outer) = Some condition.holds

-- ---- a whole condition that wasn't entered

unnested_again : (conditions : OpenConditions) → unnested (nested conditions) ≡ conditions
unnested_again conditions =
    let same : conditions.nested + 1 - 1 ≡ conditions.nested = omega arith in
    ap (λ (n : ℕ). as_open conditions.entered n conditions.is_past) same

skipped_same : (first last : OpenConditions) → SkippedInside first last → last ≡ first
skipped_same first last (NoneSkipped conditions) = refl
skipped_same first last (OneSkipped one inner other within rest) =
    skipped_same (unnested inner) other rest ∙ ap unnested (skipped_same (nested one) inner within) ∙ unnested_again one

pub skipped_closed : (conditions inside : OpenConditions) → SkippedInside (nested conditions) inside → unnested inside ≡ conditions
skipped_closed conditions inside within =
    ap unnested (skipped_same (nested conditions) inside within) ∙ unnested_again conditions

pub past_closed : (conditions inside : OpenConditions) → conditions.is_past ≡ false → SkippedInside (past conditions) inside
    → closed inside ≡ conditions
past_closed conditions inside open_now within =
    ap closed (skipped_same (past conditions) inside within)
    ∙ ap (λ (b : Bool). as_open conditions.entered conditions.nested b) (sym open_now)

-- ---- inside a condition

-- two states of the conditions are the same, except for whether the lines of the innermost condition are live
record AreAlike (first last : OpenConditions) : Type 0 where
  holds : innermost last.entered ≡ innermost first.entered
  outer : without_first last.entered ≡ without_first first.entered
  nested : last.nested ≡ first.nested
  is_past : last.is_past ≡ first.is_past

part_holds : (part : Part) (entered : List OpenCondition) → innermost (with_part part entered) ≡ innermost entered
part_holds part [] = refl
part_holds part (condition ∷ outer) = refl

part_outer : (part : Part) (entered : List OpenCondition) → without_first (with_part part entered) ≡ without_first entered
part_outer part [] = refl
part_outer part (condition ∷ outer) = refl

after_switch : (part : Part) (first last : OpenConditions) → AreAlike (switched part first) last → AreAlike first last
after_switch part first last alike = record {
  holds = alike.holds ∙ part_holds part first.entered;
  outer = alike.outer ∙ part_outer part first.entered;
  nested = alike.nested;
  is_past = alike.is_past;
}

closed_again : (holds : Bool) (first inner : OpenConditions) → first.is_past ≡ false → AreAlike (entering holds first) inner
    → closed inner ≡ first
closed_again holds first inner open_now alike =
    let within : inner.is_past ≡ false = alike.is_past ∙ open_now in
    ap (λ (b : Bool). as_open (if b then inner.entered else without_first inner.entered) inner.nested false) within
    ∙ ap (λ (e : List OpenCondition). as_open e inner.nested false) alike.outer
    ∙ ap (λ (n : ℕ). as_open first.entered n false) alike.nested
    ∙ ap (λ (b : Bool). as_open first.entered first.nested b) (sym open_now)

inside_alike : (first last : OpenConditions) → Inside first last → first.is_past ≡ false → AreAlike first last
inside_alike first last (Nothing conditions) open_now = record { holds = refl; outer = refl; nested = refl; is_past = refl }
inside_alike first last (Switch part one other rest) open_now =
    after_switch part one other (inside_alike (switched part one) other rest open_now)
inside_alike first last (Entered holds one inner other within rest) open_now =
    let is : closed inner ≡ one = closed_again holds one inner open_now (inside_alike (entering holds one) inner within open_now) in
    subst (λ (c : OpenConditions). AreAlike c other) is (inside_alike (closed inner) other rest refl)
inside_alike first last (Skipped one inner other within rest) open_now =
    let is = skipped_closed one inner within in
    subst (λ (c : OpenConditions). AreAlike c other) is
    (inside_alike (unnested inner) other rest (ap (λ (c : OpenConditions). c.is_past) is ∙ open_now))
inside_alike first last (Past one inner other within rest) open_now =
    subst (λ (c : OpenConditions). AreAlike c other) (past_closed one inner open_now within)
    (inside_alike (closed inner) other rest refl)

pub entered_closed : (holds : Bool) (conditions inside : OpenConditions) → conditions.is_past ≡ false
    → Inside (entering holds conditions) inside → closed inside ≡ conditions
entered_closed holds conditions inside open_now within =
    closed_again holds conditions inside open_now (inside_alike (entering holds conditions) inside within open_now)

-- ---- the last switch

live_by : (part : Part) (holds : Bool) (entered : List OpenCondition) → innermost entered ≡ Some holds
    → is_live_inside (with_part part entered) ≡ is_live_in part holds
live_by part holds [] is = absurd (cc)
live_by part holds (condition ∷ outer) is = let same : condition.holds ≡ holds = cc in ap (is_live_in part) same

pub skips_by : (holds : Bool) (part : Part) (conditions inside : OpenConditions) → conditions.is_past ≡ false
    → Inside (entering holds conditions) inside → is_skipping (switched part inside) ≡ not (is_live_in part holds)
skips_by holds part conditions inside open_now within =
    let alike = inside_alike (entering holds conditions) inside within open_now in
    ap (λ (b : Bool). b || not (is_live_inside (with_part part inside.entered))) (alike.is_past ∙ open_now)
    ∙ ap (λ (b : Bool). not b) (live_by part holds inside.entered alike.holds)

pub skips_at_first : (holds : Bool) (conditions : OpenConditions) → conditions.is_past ≡ false
    → is_skipping (entering holds conditions) ≡ not holds
skips_at_first holds conditions inside = rw inside refl

twice : (part other : Part) (entered : List OpenCondition) → with_part part (with_part other entered) ≡ with_part part entered
twice part other [] = refl
twice part other (condition ∷ outer) = refl

pub last_switch : (part other : Part) (conditions : OpenConditions)
    → switched part (switched other conditions) ≡ switched part conditions
last_switch part other conditions =
    ap (λ (e : List OpenCondition). as_open e conditions.nested conditions.is_past) (twice part other conditions.entered)

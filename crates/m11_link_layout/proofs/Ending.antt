-- The end of the first pass.
use Rattle.std.proofs.Common.{◌≡◌, ℕ, if◌then◌else◌, List, [], ◌∷◌, ◌++◌, append-nil, Option, Some, None, Result, Ok, Err, refl, sym, subst}
use Rattle.std.specs.Option.{option_or}
use Rattle.std.proofs.Math.Seq.{append_snoc}
use Rattle.m11_link_modules.specs.declared.fault.ModuleFault.{ModuleFault}
use Rattle.m11_link_modules.specs.declared.fault.ModuleFault.TheVariants as rule
use Rattle.m11_link_modules.specs.declared.stage.Stage.{Stage}
use Rattle.m11_link_modules.specs.declared.stage.Stage.TheVariants.{Between, InDirectory, InBody}
use Rattle.m11_link_modules.specs.Parts.{Part, EndOfFile}
use Rattle.m11_link_modules.specs.Positions.{known_of}
use Rattle.m11_link_modules.specs.Rules.{fault_known, fault_of, first_fault, may_occur}
use Rattle.m11_link_layout.specs.Tables.{LayoutTables, collected_after, collected_after_all, nothing_collected}
use Rattle.m11_link_layout.specs.Plan.{LayoutEnds, IsPlan, PlacesAll, PlanTables, Plans, StopsAtSection, bases_onto}
use Rattle.m11_link_layout.specs.Layout.{FirstFault, LayoutState, LayoutAfter}
use Rattle.m11_link_layout.specs.declared.fault.LinkFault.{LinkFault}
use Rattle.m11_link_layout.specs.declared.fault.LinkFault.TheVariants as fault
use Rattle.m11_link_layout.proofs.PlansBounded.{plan_bounded, plan_grows}
use Rattle.m11_link_layout.proofs.PlansOfParts.{plan_is, too_large_is}
use Rattle.m11_link_layout.proofs.Standing.{collected_append}
use Rattle.m11_link_layout.proofs.Walking.{head_none, rest_none}

-- ---- a plan that isn't made

pub plan_failed : (bottom : ℕ) (gathered : LayoutTables) (entries new : List ((ℕ × ℕ) × ℕ)) (said : LinkFault)
    → entries ≡ []
    → PlacesAll entries bottom gathered.sections new (Err said) → Plans bottom gathered (Err said)
plan_failed bottom gathered entries new fault.TooLarge e h =
    let P : List ((ℕ × ℕ) × ℕ) → Type 0 = λ based. bases_onto based bottom gathered.sections ≡ None in subst P e h
plan_failed bottom gathered entries new fault.NoMemory e h =
    let P : List ((ℕ × ℕ) × ℕ) → Type 0 = λ based. StopsAtSection based bottom gathered.sections in subst P e h
plan_failed bottom gathered entries new fault.Read e h = h
plan_failed bottom gathered entries new (fault.Write output) e h = h
plan_failed bottom gathered entries new (fault.Block inner) e h = h
plan_failed bottom gathered entries new (fault.Record inner) e h = h
plan_failed bottom gathered entries new fault.BadOrder e h = h
plan_failed bottom gathered entries new fault.NoText e h = h
plan_failed bottom gathered entries new fault.BadDisplacement e h = h
plan_failed bottom gathered entries new fault.UnknownSection e h = h
plan_failed bottom gathered entries new fault.TooManyGlobals e h = h
plan_failed bottom gathered entries new fault.TooManySections e h = h
plan_failed bottom gathered entries new fault.TooManyModules e h = h
plan_failed bottom gathered entries new fault.TooMuch e h = h
plan_failed bottom gathered entries new fault.TextOutside e h = h

-- ---- after the end of the last file

end_sound : (done before : List Part) → first_fault done (before ++ EndOfFile ∷ []) ≡ None
    → fault_of (done ++ before) EndOfFile ≡ None
unfolding first_fault
end_sound done [] e =
    let P : List Part → Type 0 = λ all. fault_of all EndOfFile ≡ None in
    subst P (sym (append-nil done)) (head_none (fault_of done EndOfFile) None e)
end_sound done (part ∷ before) e =
    let P : List Part → Type 0 = λ all. fault_of all EndOfFile ≡ None in
    subst P (append_snoc done part before) (end_sound (done ++ part ∷ []) before
    (rest_none (fault_of done part) (first_fault (done ++ part ∷ []) (before ++ EndOfFile ∷ [])) e))

rest_sound : (done before : List Part) → first_fault done (before ++ EndOfFile ∷ []) ≡ None
    → first_fault done before ≡ None
unfolding first_fault
rest_sound done [] e = refl
rest_sound done (part ∷ before) e =
    let rest = first_fault (done ++ part ∷ []) (before ++ EndOfFile ∷ []) in
    let first = head_none (fault_of done part) rest e in
    let P : Option ModuleFault → Type 0 = λ o. option_or o (first_fault (done ++ part ∷ []) before) ≡ None in
    subst P (sym first) (rest_sound (done ++ part ∷ []) before (rest_none (fault_of done part) rest e))

nothing_more : (bottom : ℕ) (before : List Part)
    → collected_after_all bottom nothing_collected (before ++ EndOfFile ∷ [])
    ≡ collected_after_all bottom nothing_collected before
unfolding collected_after
nothing_more bottom before = collected_append bottom nothing_collected before (EndOfFile ∷ [])

planned : (bottom : ℕ) (before : List Part) (reading : LayoutState) (plan : PlanTables)
    → LayoutAfter bottom (before ++ EndOfFile ∷ []) reading
    → Plans reading.bottom reading.gathered (Ok plan) → IsPlan bottom before plan
planned bottom before reading plan s h =
    let P : LayoutTables → Type 0 = λ g. plan.gathered ≡ g in
    let Q : ℕ → Type 0 = λ n. plan.bottom ≡ n in
    let R : LayoutTables → Type 0 = λ g. bases_onto [] reading.bottom g.sections
    ≡ Some (record { bases = plan.bases; top = plan.top }) in
    let S : ℕ → Type 0 = λ n. bases_onto [] n plan.gathered.sections
    ≡ Some (record { bases = plan.bases; top = plan.top }) in
    record {
      gathered = subst P (nothing_more bottom before) (subst P s.gathered h.0);
      bases = subst S s.bottom_is (subst R (sym h.0) h.2);
      bottom_is = subst Q s.bottom_is h.1;
    }

too_large : (bottom : ℕ) (before : List Part) (reading : LayoutState) → LayoutAfter bottom (before ++ EndOfFile ∷ []) reading
    → bases_onto [] reading.bottom reading.gathered.sections ≡ None
    → bases_onto [] bottom (collected_after_all bottom nothing_collected before).sections ≡ None
too_large bottom before reading s h =
    let P : LayoutTables → Type 0 = λ g. bases_onto [] bottom g.sections ≡ None in
    let S : ℕ → Type 0 = λ n. bases_onto [] n reading.gathered.sections ≡ None in
    subst P (nothing_more bottom before) (subst P s.gathered (subst S s.bottom_is h))

-- the result of a plan after the end of the last file is a result of the first pass
pub ended : (bottom : ℕ) (before : List Part) (reading : LayoutState) (result : Result PlanTables LinkFault)
    → LayoutAfter bottom (before ++ EndOfFile ∷ []) reading → Plans reading.bottom reading.gathered result
    → LayoutEnds bottom before result
ended bottom before reading (Ok plan) s h = (
  end_sound [] before s.sound,
  (let sound = rest_sound [] before s.sound in
      let is = planned bottom before reading plan s h in
      plan_is bottom before plan sound is (plan_grows bottom before plan sound is) (plan_bounded bottom before plan sound is)),
)
ended bottom before reading (Err fault.TooLarge) s h = (
  end_sound [] before s.sound,
  too_large_is bottom before (rest_sound [] before s.sound)
      (too_large bottom before reading s h),
)
ended bottom before reading (Err fault.NoMemory) s h = (
  end_sound [] before s.sound,
  (let P : LayoutTables → Type 0 = λ g. StopsAtSection [] bottom g.sections in
      let S : ℕ → Type 0 = λ n. StopsAtSection [] n reading.gathered.sections in
      subst P (nothing_more bottom before) (subst P s.gathered (subst S s.bottom_is h))),
)
ended bottom before reading (Err fault.Read) s h = absurd h
ended bottom before reading (Err (fault.Write output)) s h = absurd h
ended bottom before reading (Err (fault.Block inner)) s h = absurd h
ended bottom before reading (Err (fault.Record inner)) s h = absurd h
ended bottom before reading (Err fault.BadOrder) s h = absurd h
ended bottom before reading (Err fault.NoText) s h = absurd h
ended bottom before reading (Err fault.BadDisplacement) s h = absurd h
ended bottom before reading (Err fault.UnknownSection) s h = absurd h
ended bottom before reading (Err fault.TooManyGlobals) s h = absurd h
ended bottom before reading (Err fault.TooManySections) s h = absurd h
ended bottom before reading (Err fault.TooManyModules) s h = absurd h
ended bottom before reading (Err fault.TooMuch) s h = absurd h
ended bottom before reading (Err fault.TextOutside) s h = absurd h

pub ended_seen : {seen : LayoutState} (bottom : ℕ) (before : List Part) (reading : LayoutState)
    (result : Result PlanTables LinkFault) → seen ≡ reading
    → LayoutAfter bottom (before ++ EndOfFile ∷ []) reading → Plans seen.bottom seen.gathered result
    → LayoutEnds bottom before result
ended_seen {seen} bottom before reading result is s h =
    let P : LayoutState → Type 0 = λ r. LayoutAfter bottom (before ++ EndOfFile ∷ []) r in
    ended bottom before seen result (subst P (sym is) s) h

-- ---- an end inside a module

inside : (stage : Stage) (said : ModuleFault) → option_or
    (if may_occur EndOfFile stage then None else Some rule.BadOrder) None ≡ Some said
    → (said ≡ rule.BadOrder) × ((if may_occur EndOfFile stage then None else Some rule.BadOrder) ≡ Some rule.BadOrder)
inside Between said e = search
inside InDirectory said e = (search, refl)
inside InBody said e = (search, refl)

pub end_fault : (before : List Part) (said : ModuleFault) → first_fault before (EndOfFile ∷ []) ≡ Some said
    → (said ≡ rule.BadOrder) × (fault_of before EndOfFile ≡ Some rule.BadOrder)
unfolding first_fault fault_known
end_fault before said e = inside (known_of before).stage said e

-- if the end of the last file has the fault BadOrder, this is a result of the first pass
pub end_refused : (bottom : ℕ) (before : List Part) (reported : LinkFault) → reported ≡ fault.BadOrder
    → FirstFault before (EndOfFile ∷ []) reported → LayoutEnds bottom before (Err reported)
end_refused bottom before reported is h =
    let P : LinkFault → Type 0 = λ l. FirstFault before (EndOfFile ∷ []) l in
    let Q : LinkFault → Type 0 = λ l. LayoutEnds bottom before (Err l) in
    let found = subst P is h in
    subst Q (sym is) (end_fault before found.0 found.1).1

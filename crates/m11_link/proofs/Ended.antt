-- The end of the second pass.
use Rattle.std.proofs.Common.{◌≡◌, Bool, true, false, if◌then◌else◌, List, [], ◌∷◌, ◌++◌, append_assoc, append-nil, None, Result, Ok, Err, IsErrAnd, IfOk, refl, sym, subst, ap, ap₂, ◌∙◌}
use Rattle.m11_obj_blocks.specs.Tapes.{tape_block}
use Rattle.m11_link_modules.specs.Laws.{AcceptsAfter}
use Rattle.m11_link_modules.specs.Parts.{Part, EndOfFile}
use Rattle.m11_link_modules.specs.Positions.{RulesState, adds_name, known_of}
use Rattle.m11_link_modules.specs.Rules.{fault_of, first_fault}
use Rattle.m11_link_modules.specs.declared.fault.ModuleFault.{ModuleFault}
use Rattle.m11_link_modules.specs.declared.fault.ModuleFault.TheVariants as rule
use Rattle.m11_link_layout.proofs.Ending.{end_fault}
use Rattle.m11_link_layout.proofs.Walking.{head_none}
use Rattle.m11_link_layout.specs.Fault.{of_module}
use Rattle.m11_link_layout.specs.Plan.{PlanTables}
use Rattle.m11_link_layout.specs.declared.fault.LinkFault.{LinkFault}
use Rattle.m11_link_layout.specs.declared.fault.LinkFault.TheVariants as fault
use Rattle.m11_link.specs.declared.emit.LinkDone.{LinkDone}
use Rattle.m11_link.specs.Emit.{EmitState, EmitEnds, GoesOn, EmitAfter, begin_writes, begun_reporting, written}
use Rattle.m11_link_text.specs.Findings.{planned}
use Rattle.m11_link.specs.Front.{front_writes}
use Rattle.m11_link.specs.Outputs.{Finishes, Gains, StopsBetween, StopsIn}
use Rattle.m11_base_writes.specs.Outputs.{Outputs, Write, flushes, to_product}
use Rattle.m11_link.specs.Written.{counted, link_writes}
use Rattle.m11_link.proofs.Counting.{counted-append}
use Rattle.m11_link.proofs.Emitted.{begun_counts, begun_holds, here, none_written}

-- the end of a file adds no name
no_name_there : (taken : List Part) (part : Part) (left : List Part) → EndOfFile ∷ [] ≡ taken ++ part ∷ left
    → adds_name part ≡ true → ⊥
no_name_there [] part left e adds =
    let is : EndOfFile ≡ part = cc in
    let P : Part → Type 0 = λ x. adds_name x ≡ true in
    let no : adds_name EndOfFile ≡ true = subst P (sym is) adds in cc
no_name_there (first ∷ []) part left e adds = cc
no_name_there (first ∷ second ∷ taken) part left e adds = cc

-- ---- the transfer block

abbrev transfer : PlanTables → List Write
transfer plan = to_product (tape_block (planned plan).transfer []) ∷ []

all_written : (plan : PlanTables) (before : List Part) (b : Bool) (ws : List Write) → (b ≡ false → before ≡ [])
    → link_writes (planned plan) before
    ≡ written (planned plan) b before ++ ((if b then [] else front_writes (planned plan)) ++ transfer plan)
all_written plan before true ws first = refl
all_written plan before false ws first =
    ap (λ these. (front_writes (planned plan) ++ these) ++ transfer plan) (none_written plan before (first refl))
    ∙ ap (λ these. these ++ transfer plan) (append-nil (front_writes (planned plan)))

module _ {seen : EmitState} (plan : PlanTables) (before : List Part) (s : EmitState) (is : seen ≡ s) (stands : EmitAfter plan before s)
  where
    now : EmitAfter plan before seen
    now = here plan before s is stands

    abbrev made : List Write
    made = begin_writes seen ++ transfer (begun_reporting seen).plan

    begun_plan : (begun_reporting seen).plan ≡ plan
    begun_plan = (begun_holds plan before seen.has_begun seen.reporting (front_writes (planned seen.reporting.plan))
        (record { planned_so = now.planned_so; defined = now.defined; held = now.held })).planned_so

    split : link_writes (planned plan) before ≡ written (planned plan) seen.has_begun before ++ made
    split = all_written plan before seen.has_begun made now.begun
        ∙ ap₂ (λ p q. written (planned plan) seen.has_begun before
        ++ ((if seen.has_begun then [] else front_writes (planned p)) ++ transfer q)) (sym now.planned_so) (sym begun_plan)

    went_on : (Went : List Write → Type 0) → Went made
        → GoesOn Went (written (planned plan) seen.has_begun before) (link_writes (planned plan) before)
    went_on Went h = record { more = made; split = split; went = h }

    went_flushing : (Went : List Write → Type 0) → Went (made ++ flushes)
        → GoesOn Went (written (planned plan) seen.has_begun before) (link_writes (planned plan) before ++ flushes)
    went_flushing Went h = record {
      more = made ++ flushes;
      split = ap (λ ws. ws ++ flushes) split ∙ append_assoc (written (planned plan) seen.has_begun before) made flushes;
      went = h;
    }

    counts : (done : LinkDone) → done.messages ≡ (begun_reporting seen).messages
        → done.messages ≡ counted 0 (link_writes (planned plan) before)
    counts done e = e
        ∙ begun_counts seen.has_begun seen.reporting (front_writes (planned seen.reporting.plan))
        ∙ ap (λ n. counted n (begin_writes seen)) now.messages
        ∙ counted-append 0 (written (planned plan) seen.has_begun before) (begin_writes seen)
        ∙ counted-append 0 (written (planned plan) seen.has_begun before ++ begin_writes seen) (transfer (begun_reporting seen).plan)
        ∙ ap (λ ws. counted 0 ws) (append_assoc (written (planned plan) seen.has_begun before) (begin_writes seen)
        (transfer (begun_reporting seen).plan) ∙ sym split)

    abbrev Ended : Outputs → Outputs → EmitState → Result LinkDone LinkFault → Type 0
    Ended a b x result = EmitEnds plan before a b x result

    ended_here : (a b : Outputs) (result : Result LinkDone LinkFault) → fault_of before EndOfFile ≡ None
        → Finishes a b made result → IfOk result (λ done. done.messages ≡ (begun_reporting seen).messages)
        → Ended a b seen result
    ended_here a b (Ok done) sound h n = (sound, counts done n, went_on (λ more. Gains a b more) h.0, h.1)
    ended_here a b (Err (fault.Write output)) sound h n = (sound, went_flushing (λ more. StopsIn output a b more) h)
    ended_here a b (Err fault.NoMemory) sound h n = (sound, went_flushing (λ more. StopsBetween a b more) h)
    ended_here a b (Err fault.Read) sound h n = absurd h
    ended_here a b (Err (fault.Block inner)) sound h n = absurd h
    ended_here a b (Err (fault.Record inner)) sound h n = absurd h
    ended_here a b (Err fault.BadOrder) sound h n = absurd h
    ended_here a b (Err fault.NoText) sound h n = absurd h
    ended_here a b (Err fault.BadDisplacement) sound h n = absurd h
    ended_here a b (Err fault.UnknownSection) sound h n = absurd h
    ended_here a b (Err fault.TooLarge) sound h n = absurd h
    ended_here a b (Err fault.TooManyGlobals) sound h n = absurd h
    ended_here a b (Err fault.TooManySections) sound h n = absurd h
    ended_here a b (Err fault.TooManyModules) sound h n = absurd h
    ended_here a b (Err fault.TooMuch) sound h n = absurd h
    ended_here a b (Err fault.TextOutside) sound h n = absurd h

    sound_end : first_fault before (EndOfFile ∷ []) ≡ None → fault_of before EndOfFile ≡ None
    unfolding first_fault
    sound_end e = head_none (fault_of before EndOfFile) None e

    pub ended : (a b : Outputs) (known : RulesState) (result : Result LinkDone LinkFault)
        → (seen.known ≡ known_of before → AcceptsAfter before known (EndOfFile ∷ []) (Ok tt)) → Finishes a b made result
        → IfOk result (λ done. done.messages ≡ (begun_reporting seen).messages) → Ended a b s result
    ended a b known result t h n =
        let P : EmitState → Type 0 = λ x. Ended a b x result in
        subst P is (ended_here a b result (sound_end (t now.known).0) h n)

    inside : (a : Outputs) (new : RulesState) (broken : ModuleFault) → AcceptsAfter before new (EndOfFile ∷ []) (Err broken)
        → Ended a a seen (Err (of_module broken))
    inside a new rule.BadOrder h = ((end_fault before rule.BadOrder h).1, refl)
    inside a new rule.NoMemory h = absurd (no_name_there h.taken h.part h.left h.split h.adds)
    inside a new rule.NoText h = let e = (end_fault before rule.NoText h).0 in absurd cc
    inside a new rule.BadDisplacement h = let e = (end_fault before rule.BadDisplacement h).0 in absurd cc
    inside a new rule.UnknownSection h = let e = (end_fault before rule.UnknownSection h).0 in absurd cc
    inside a new rule.TextOutside h = let e = (end_fault before rule.TextOutside h).0 in absurd cc
    inside a new rule.TooManyGlobals h = let e = (end_fault before rule.TooManyGlobals h).0 in absurd cc
    inside a new rule.TooManySections h = let e = (end_fault before rule.TooManySections h).0 in absurd cc
    inside a new rule.TooManyModules h = let e = (end_fault before rule.TooManyModules h).0 in absurd cc

    pub ended_inside : (a : Outputs) (new : RulesState) (broken : ModuleFault) (result : Result LinkDone LinkFault)
        → (seen.known ≡ known_of before → AcceptsAfter before new (EndOfFile ∷ []) (Err broken))
        → IsErrAnd result (λ e. e ≡ of_module broken) → Ended a a s result
    ended_inside a new broken (Ok done) t e = absurd e
    ended_inside a new broken (Err stopped) t e =
        let P : EmitState → Type 0 = λ x. Ended a a x (Err (of_module broken)) in
        let Q : LinkFault → Type 0 = λ l. Ended a a s (Err l) in
        subst Q (sym e) (subst P is (inside a new broken (t now.known)))

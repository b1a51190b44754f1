-- A source has one unfolding, if one rule says what is known at each line.
use Rattle.std.proofs.Common.{◌≡◌, ◌∙◌, List, [], ◌∷◌, ◌++◌, append_assoc, append-nil, None, inl, inr, refl, sym, ap, subst}
use Rattle.std.specs.Prelude.{◌⊎◌}
use Rattle.m11_scan_expressions.specs.Expressions.{KnownSymbols}
use Rattle.m11_unfold_rules.specs.Acting.{act}
use Rattle.m11_unfold_rules.specs.Histories.{GoesOn, IsKnownBy}
use Rattle.m11_unfold_rules.specs.Stages.{Stage}
use Rattle.m11_unfold_rules.specs.Taking.{Gives, Live, Passes, NothingLeft, move}
use Rattle.m11_unfold_rules.specs.Unfolding.{UnfoldedLine, Leads, given}
use Rattle.m11_unfold_rules.specs.Unfolding as steps
use Rattle.m11_unfold_rules.specs.Limits.{next_fault}
use Rattle.m11_unfold_rules.specs.Acting.{act_fault}

-- ---- the first step

-- how an unfolding begins: it has no step, or its first move gives no line, or its first move gives a live line
data Begins (before : Stage) (done : List UnfoldedLine) (after : Stage) : Type 0 where
  Still : done ≡ [] → after ≡ before → Begins before done after
  Moved : (next : Stage) → move before ≡ Passes next → Leads next done after → Begins before done after
  Gave : (next : Stage) (live : Live) (known : KnownSymbols) (more : List UnfoldedLine) → move before ≡ Gives live next
      → done ≡ given known live next ∷ more → Leads (act known next live.line.text).after more after → Begins before done after

-- with one more move at its end, which gives no line, an unfolding still begins in one of these ways
moves_on : (before stage after : Stage) (done : List UnfoldedLine) → next_fault stage ≡ None → move stage ≡ Passes after
    → Begins before done stage → Begins before done after
moves_on before stage after done fault moves (Still none same) =
    let P : Stage → Type 0 = λ s. move s ≡ Passes after in
    let Q : List UnfoldedLine → Type 0 = λ ds. Leads after ds after in
    Moved after (subst P same moves) (subst Q (sym none) steps.Leads.Stays)
moves_on before stage after done fault moves (Moved next first leads) =
    Moved next first (steps.Leads.Passing done stage after leads fault moves)
moves_on before stage after done fault moves (Gave next live known more first whole leads) =
    Gave next live known more first whole (steps.Leads.Passing more stage after leads fault moves)

-- with one more live line at its end, an unfolding still begins in one of these ways
gives_on : (before stage after : Stage) (done : List UnfoldedLine) (live : Live) (known : KnownSymbols) → next_fault stage ≡ None
    → move stage ≡ Gives live after → act_fault after live.line.text ≡ None → Begins before done stage
    → Begins before (done ++ given known live after ∷ []) (act known after live.line.text).after
gives_on before stage after done live known fault moves acts (Still none same) =
    let P : Stage → Type 0 = λ s. move s ≡ Gives live after in
    Gave after live known [] (subst P same moves) (ap (λ (ds : List UnfoldedLine). ds ++ given known live after ∷ []) none) steps.Leads.Stays
gives_on before stage after done live known fault moves acts (Moved next first leads) =
    Moved next first (steps.Leads.Giving done stage after live known leads fault moves acts)
gives_on before stage after done live known fault moves acts (Gave next first_live first_known more first whole leads) =
    Gave next first_live first_known (more ++ given known live after ∷ []) first
    (ap (λ (ds : List UnfoldedLine). ds ++ given known live after ∷ []) whole)
    (steps.Leads.Giving more stage after live known leads fault moves acts)

first_step : (before after : Stage) (done : List UnfoldedLine) → Leads before done after → Begins before done after
first_step before _ _ steps.Leads.Stays = Still refl refl
first_step before after done (steps.Leads.Passing _ stage _ leads fault moves) =
    moves_on before stage after done fault moves (first_step before stage done leads)
first_step before _ _ (steps.Leads.Giving done stage after live known leads fault moves acts) =
    gives_on before stage after done live known fault moves acts (first_step before stage done leads)

-- ---- two unfoldings

-- if the first unfolding makes one more move, the second one made the same move, or has come no further
passes_too : (stage after other : Stage) (done later more : List UnfoldedLine) → next_fault stage ≡ None → move stage ≡ Passes after
    → later ≡ done ++ more → Begins stage more other → GoesOn done after later other ⊎ GoesOn later other done after
passes_too stage after other done later more fault moves whole (Still none same) =
    let P : Stage → Type 0 = λ s. Leads s [] after in
    let here : Leads stage [] after = steps.Leads.Passing [] stage after steps.Leads.Stays fault moves in
    let ends : done ≡ later ++ [] = sym (append-nil later ∙ whole ∙ ap (λ (m : List UnfoldedLine). done ++ m) none ∙ append-nil done) in
    inr (record { more = []; whole = ends; leads = subst P (sym same) here })
passes_too stage after other done later more fault moves whole (Moved next moves' leads) =
    let both : Passes after ≡ Passes next = sym moves ∙ moves' in
    let same : next ≡ after = cc in
    let P : Stage → Type 0 = λ s. Leads s more other in
    inl (record { more = more; whole = whole; leads = subst P same leads })
passes_too stage after other done later more fault moves whole (Gave next live known rest moves' is leads) =
    let both : Passes after ≡ Gives live next = sym moves ∙ moves' in
    absurd (cc both)

-- if the first unfolding has one more live line, the second one has the same line, or has come no further
gives_too : (tells : List UnfoldedLine → Live → KnownSymbols) (stage after other : Stage) (done later more : List UnfoldedLine) (live : Live) (known : KnownSymbols)
    → next_fault stage ≡ None → move stage ≡ Gives live after → act_fault after live.line.text ≡ None
    → IsKnownBy tells (done ++ given known live after ∷ []) → IsKnownBy tells later → later ≡ done ++ more → Begins stage more other
    → GoesOn (done ++ given known live after ∷ []) (act known after live.line.text).after later other
    ⊎ GoesOn later other (done ++ given known live after ∷ []) (act known after live.line.text).after
gives_too tells stage after other done later more live known fault moves acts told told' whole (Still none same) =
    let one : List UnfoldedLine = given known live after ∷ [] in
    let end : Stage = (act known after live.line.text).after in
    let P : Stage → Type 0 = λ s. Leads s one end in
    let here : Leads stage one end = steps.Leads.Giving [] stage after live known steps.Leads.Stays fault moves acts in
    let front : done ≡ later = sym (whole ∙ ap (λ (m : List UnfoldedLine). done ++ m) none ∙ append-nil done) in
    inr (record { more = one; whole = ap (λ (d : List UnfoldedLine). d ++ one) front; leads = subst P (sym same) here })
gives_too tells stage after other done later more live known fault moves acts told told' whole (Moved next moves' leads) =
    let both : Gives live after ≡ Passes next = sym moves ∙ moves' in
    absurd (cc both)
gives_too tells stage after other done later more live known fault moves acts told told' whole (Gave next live' known' rest moves' is leads) =
    let both : Gives live after ≡ Gives live' next = sym moves ∙ moves' in
    let same_live : live' ≡ live = cc in
    let same_stage : next ≡ after = cc in
    let whole' : later ≡ done ++ given known' live' next ∷ rest = whole ∙ ap (λ (m : List UnfoldedLine). done ++ m) is in
    let knows : known ≡ tells done live = told done [] (given known live after) refl in
    let knows' : known' ≡ tells done live' = told' done rest (given known' live' next) whole' in
    let same_known : known' ≡ known = knows' ∙ ap (tells done) same_live ∙ sym knows in
    let P : KnownSymbols → Type 0 = λ k. (later ≡ done ++ given k live' next ∷ rest) × Leads (act k next live'.line.text).after rest other in
    let Q : Live → Type 0 = λ l. (later ≡ done ++ given known l next ∷ rest) × Leads (act known next l.line.text).after rest other in
    let R : Stage → Type 0 = λ s. (later ≡ done ++ given known live s ∷ rest) × Leads (act known s live.line.text).after rest other in
    let all = subst R same_stage (subst Q same_live (subst P same_known (whole', leads))) in
    inl (record {
      more = rest;
      whole = all.0 ∙ sym (append_assoc done (given known live after ∷ []) rest);
      leads = all.1;
    })

-- a rule that says what is known at each of these lines says so at each of the first ones
pub front_told : (tells : List UnfoldedLine → Live → KnownSymbols) (done more : List UnfoldedLine) → IsKnownBy tells (done ++ more) → IsKnownBy tells done
front_told tells done more told earlier later one is =
    told earlier (later ++ more) one (ap (λ (d : List UnfoldedLine). d ++ more) is ∙ append_assoc earlier (one ∷ later) more)

pub compared : (tells : List UnfoldedLine → Live → KnownSymbols) (before first second : Stage) (done later : List UnfoldedLine) → IsKnownBy tells done
    → IsKnownBy tells later → Leads before done first → Leads before later second
    → GoesOn done first later second ⊎ GoesOn later second done first
compared tells before _ second _ later told told' steps.Leads.Stays leads' =
    inl (record { more = later; whole = refl; leads = leads' })
compared tells before first second done later told told' (steps.Leads.Passing _ stage _ leads fault moves) leads' =
    go (compared tells before stage second done later told told' leads leads')
  where
    go : GoesOn done stage later second ⊎ GoesOn later second done stage → GoesOn done first later second ⊎ GoesOn later second done first
    go (inl on) = passes_too stage first second done later on.more fault moves on.whole (first_step stage second on.more on.leads)
    go (inr on) = inr (record {
      more = on.more;
      whole = on.whole;
      leads = steps.Leads.Passing on.more stage first on.leads fault moves;
    })
compared tells before _ second _ later told told' (steps.Leads.Giving done stage after live known leads fault moves acts) leads' =
    go (compared tells before stage second done later (front_told tells done (given known live after ∷ []) told) told' leads leads')
  where
    go : GoesOn done stage later second ⊎ GoesOn later second done stage
        → GoesOn (done ++ given known live after ∷ []) (act known after live.line.text).after later second
        ⊎ GoesOn later second (done ++ given known live after ∷ []) (act known after live.line.text).after
    go (inl on) = gives_too tells stage after second done later on.more live known fault moves acts told told' on.whole
        (first_step stage second on.more on.leads)
    go (inr on) = inr (record {
      more = on.more ++ given known live after ∷ [];
      whole = ap (λ (d : List UnfoldedLine). d ++ given known live after ∷ []) on.whole
          ∙ append_assoc later on.more (given known live after ∷ []);
      leads = steps.Leads.Giving on.more stage after live known on.leads fault moves acts;
    })

-- ---- unfoldings that are at their end

-- if no move is left at a stage, an unfolding from it has no lines and stays there
stays_there : (stage after : Stage) (more : List UnfoldedLine) → move stage ≡ NothingLeft → Begins stage more after
    → (more ≡ []) × (after ≡ stage)
stays_there stage after more rests (Still none same) = (none, same)
stays_there stage after more rests (Moved next moves leads) =
    let both : NothingLeft ≡ Passes next = sym rests ∙ moves in
    absurd (cc both)
stays_there stage after more rests (Gave next live known rest moves is leads) =
    let both : NothingLeft ≡ Gives live next = sym rests ∙ moves in
    absurd (cc both)

pub same_end : (done later : List UnfoldedLine) (first second : Stage) → move first ≡ NothingLeft → GoesOn done first later second
    → (later ≡ done) × (second ≡ first)
same_end done later first second rests on =
    let still = stays_there first second on.more rests (first_step first second on.more on.leads) in
    (on.whole ∙ ap (λ (m : List UnfoldedLine). done ++ m) still.0 ∙ append-nil done, still.1)

pub one_end : (tells : List UnfoldedLine → Live → KnownSymbols) (before first second : Stage) (done later : List UnfoldedLine) → IsKnownBy tells done
    → IsKnownBy tells later → Leads before done first → Leads before later second → move first ≡ NothingLeft → move second ≡ NothingLeft
    → (done ≡ later) × (first ≡ second)
one_end tells before first second done later told told' leads leads' rests rests' =
    go (compared tells before first second done later told told' leads leads')
  where
    go : GoesOn done first later second ⊎ GoesOn later second done first → (done ≡ later) × (first ≡ second)
    go (inl on) = let same = same_end done later first second rests on in (sym same.0, sym same.1)
    go (inr on) = same_end later done second first rests' on

-- If each state has at most one next state, then of two states reached from the same one, one is reached from the other.
use Rattle.std.proofs.Common.{◌≡◌, ◌∙◌, Option, Some, None, inl, inr, refl, sym, ap, subst}
use Rattle.std.specs.Prelude.{◌⊎◌}

-- a state is reached from another in some steps
pub data Onward (A : Type 0) (step : A → Option A) (before : A) : A → Type 0 where
  Stays : Onward A step before before
  Goes : (middle after : A) → Onward A step before middle → step middle ≡ Some after → Onward A step before after

-- a state is reached in no step, or in a first step and further ones
data First (A : Type 0) (step : A → Option A) (before after : A) : Type 0 where
  Still : after ≡ before → First A step before after
  Moved : (next : A) → step before ≡ Some next → Onward A step next after → First A step before after

module _ (A : Type 0) (step : A → Option A) where
  one_more : (before middle after : A) → step middle ≡ Some after → First A step before middle → First A step before after
  one_more before middle after steps (Still same) =
      let P : A → Type 0 = λ s. step s ≡ Some after in
      Moved after (subst P same steps) Onward.Stays
  one_more before middle after steps (Moved next begins leads) = Moved next begins (Onward.Goes middle after leads steps)

  first_step : (before after : A) → Onward A step before after → First A step before after
  first_step before _ Onward.Stays = Still refl
  first_step before after (Onward.Goes middle _ leads steps) = one_more before middle after steps (first_step before middle leads)

  one_next : (before next other : A) → step before ≡ Some next → step before ≡ Some other → other ≡ next
  one_next before next other steps steps' =
      let both : Some next ≡ Some other = sym steps ∙ steps' in cc

  -- of the next state after a state and any state reached from that state, one is reached from the other
  goes_too : (middle after other : A) → step middle ≡ Some after → First A step middle other
      → Onward A step after other ⊎ Onward A step other after
  goes_too middle after other steps (Still same) =
      let P : A → Type 0 = λ s. step s ≡ Some after in
      inr (Onward.Goes other after Onward.Stays (subst P (sym same) steps))
  goes_too middle after other steps (Moved next begins leads) =
      let P : A → Type 0 = λ s. Onward A step s other in
      inl (subst P (one_next middle after next steps begins) leads)

  pub in_order : (before first second : A) → Onward A step before first → Onward A step before second
      → Onward A step first second ⊎ Onward A step second first
  in_order before _ second Onward.Stays leads' = inl leads'
  in_order before first second (Onward.Goes middle _ leads steps) leads' = go (in_order before middle second leads leads')
    where
      go : Onward A step middle second ⊎ Onward A step second middle → Onward A step first second ⊎ Onward A step second first
      go (inl on) = goes_too middle first second steps (first_step middle second on)
      go (inr on) = inr (Onward.Goes middle first on steps)

  -- ---- a state that has no next one

  stays_by : (before after : A) → step before ≡ None → First A step before after → after ≡ before
  stays_by before after stops (Still same) = same
  stays_by before after stops (Moved next begins leads) =
      let both : None ≡ Some next = sym stops ∙ begins in absurd (cc both)

  pub stays : (before after : A) → step before ≡ None → Onward A step before after → after ≡ before
  stays before after stops leads = stays_by before after stops (first_step before after leads)

  pub one_end : (before first second : A) → step first ≡ None → step second ≡ None → Onward A step before first
      → Onward A step before second → first ≡ second
  one_end before first second stops stops' leads leads' = go (in_order before first second leads leads')
    where
      go : Onward A step first second ⊎ Onward A step second first → first ≡ second
      go (inl on) = sym (stays first second stops on)
      go (inr on) = stays second first stops' on

-- two kinds of steps, where each step of the first kind is one of the second
module _ (A : Type 0) (step loose : A → Option A) (is_looser : (here next : A) → step here ≡ Some next → loose here ≡ Some next) where
  still_there : (middle end here : A) → loose end ≡ None → loose middle ≡ Some here → end ≡ middle → ⊥
  still_there middle end here stops goes same =
      let both : None ≡ Some here = sym stops ∙ ap loose same ∙ goes in cc

  next_by : (before after next : A) → loose before ≡ Some next → loose after ≡ None → First A step before after
      → (step before ≡ Some next) × Onward A step next after
  next_by before after next goes stops (Still same) = absurd (still_there before after next stops goes same)
  next_by before after next goes stops (Moved other begins on) =
      let same : other ≡ next = one_next A loose before next other goes (is_looser before other begins) in
      let P : A → Type 0 = λ s. step before ≡ Some s in
      let Q : A → Type 0 = λ s. Onward A step s after in (subst P same begins, subst Q same on)

  -- steps of the first kind that lead to a state from which there is no step of the second kind include each step of the second kind on the
  -- way
  pub next_of : (before after next : A) → loose before ≡ Some next → loose after ≡ None → Onward A step before after
      → (step before ≡ Some next) × Onward A step next after
  next_of before after next goes stops leads = next_by before after next goes stops (first_step A step before after leads)

  -- so steps of the first kind reach each state that steps of the second kind reach on the way
  pub on_the_way : (before end here : A) → loose end ≡ None → Onward A step before end → Onward A loose before here
      → Onward A step here end
  on_the_way before end _ stops leads Onward.Stays = leads
  on_the_way before end here stops leads (Onward.Goes middle _ loosely goes) =
      (next_of middle end here goes stops (on_the_way before end middle stops leads loosely)).1

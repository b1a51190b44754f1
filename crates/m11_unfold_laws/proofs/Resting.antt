-- An unfolding to the stage where nothing is left, move by move.
use Rattle.std.proofs.Common.{◌≡◌, ◌∙◌, ℕ, zero, suc, Bool, true, List, [], ◌∷◌, ◌++◌, append_assoc, append-nil, None, inl, inr, refl, sym, ap, subst}
use Rattle.std.specs.Prelude.{not, if◌then◌else◌}
use Rattle.m11_scan.specs.Line.{SourceLine}
use Rattle.m11_unfold_rules.specs.Directives.{directive}
use Rattle.m11_scan_expressions.specs.Expressions.{KnownSymbols}
use Rattle.m11_unfold_bodies.specs.Conditions.{is_live_inside}
use Rattle.m11_unfold_bodies.specs.Left.{RemainingItem, Line, count_in, has_mark, is_expanding, marks}
use Rattle.m11_unfold_bodies.specs.declared.mark.Mark.{Mark}
use Rattle.m11_unfold_rules.specs.Acting.{Acted, act, act_fault, acted_by}
use Rattle.m11_unfold_rules.specs.Limits.{next_fault}
use Rattle.m11_unfold_rules.specs.Stages.{Stage}
use Rattle.m11_unfold_rules.specs.Taking.{Gives, Live, Passes, NothingLeft, move, skipped_by}
use Rattle.m11_unfold_rules.specs.Unfolding.{UnfoldedLine, Leads, given}
use Rattle.m11_unfold_rules.specs.Unfolding as steps
use Rattle.m11_unfold_rules.proofs.Cases.{live_or_skipped}
use Rattle.m11_unfold_laws.specs.Limits.{PassesLimit}
use Rattle.m11_unfold_laws.specs.Levels.{Level, Situation, counting, only_entered, operation_at, stage_of}
use Rattle.m11_unfold_laws.proofs.Lines.{shown}
use Rattle.m11_unfold_laws.proofs.Runs.{Runs}
use Rattle.m11_unfold_laws.proofs.Wholes.{no_limit_at_rest, no_line, no_pass}

-- nothing is left after at most this many moves, by which these lines become live
pub data Rested : ℕ → Stage → List UnfoldedLine → Type 0 where
  AtRest : (n : ℕ) (stage : Stage) → move stage ≡ NothingLeft → Rested n stage []
  Passing : (n : ℕ) (stage after : Stage) (gives : List UnfoldedLine) → next_fault stage ≡ None → move stage ≡ Passes after
      → Rested n after gives → Rested (suc n) stage gives
  Giving : (n : ℕ) (stage after : Stage) (live : Live) (known : KnownSymbols) (gives : List UnfoldedLine) → next_fault stage ≡ None
      → move stage ≡ Gives live after → act_fault after live.line.text ≡ None
      → Rested n (act known after live.line.text).after gives
      → Rested (suc n) stage (given known live after ∷ gives)

pub lifted : (n : ℕ) (stage : Stage) (gives : List UnfoldedLine) → Rested n stage gives → Rested (suc n) stage gives
lifted _ _ _ (Rested.AtRest n stage rests) = Rested.AtRest (suc n) stage rests
lifted _ _ _ (Rested.Passing n stage after gives fault moves next) =
    Rested.Passing (suc n) stage after gives fault moves (lifted n after gives next)
lifted _ _ _ (Rested.Giving n stage after live known gives fault moves acts next) =
    Rested.Giving (suc n) stage after live known gives fault moves acts
    (lifted n (act known after live.line.text).after gives next)

-- ---- each unfolding that has reached its end

pub record SomeRested (stage : Stage) (gives : List UnfoldedLine) : Type 0 where
  pub moves : ℕ
  pub rested : Rested moves stage gives

from_there : (before stage : Stage) (done later : List UnfoldedLine) (n : ℕ) → Leads before done stage → Rested n stage later
    → SomeRested before (done ++ later)
from_there before _ _ later n steps.Leads.Stays next = record { moves = n; rested = next }
from_there before _ _ later n (steps.Leads.Passing done stage after leads fault moves) next =
    from_there before stage done later (suc n) leads (Rested.Passing n stage after later fault moves next)
from_there before _ _ later n (steps.Leads.Giving done stage after live known leads fault moves acts) next =
    subst (SomeRested before) (sym (append_assoc done (given known live after ∷ []) later))
    (from_there before stage done (given known live after ∷ later) (suc n) leads
    (Rested.Giving n stage after live known later fault moves acts next))

pub all_moves : (before stage : Stage) (done : List UnfoldedLine) → Leads before done stage → move stage ≡ NothingLeft → SomeRested before done
all_moves before stage done leads rests =
    subst (SomeRested before) (append-nil done) (from_there before stage done [] 0 leads (Rested.AtRest 0 stage rests))

-- ---- moves by which no line becomes live

passed : (n : ℕ) (stage : Stage) (gives : List UnfoldedLine) → Rested n stage gives → (after : Stage) → move stage ≡ Passes after
    → Rested n after gives
passed _ _ _ (Rested.AtRest n stage rests) after moves = absurd (let bad : NothingLeft ≡ Passes after = sym rests ∙ moves in cc)
passed _ _ _ (Rested.Passing n stage other gives fault moves' next) after moves =
    let both : Passes other ≡ Passes after = sym moves' ∙ moves in
    let same : other ≡ after = cc in
    lifted n after gives (subst (λ (s : Stage). Rested n s gives) same next)
passed _ _ _ (Rested.Giving n stage other live known gives fault moves' acts next) after moves =
    absurd (let bad : Gives live other ≡ Passes after = sym moves' ∙ moves in cc)

nothing_first : (first more : List UnfoldedLine) → [] ≡ first ++ more → first ≡ []
nothing_first [] more is = refl
nothing_first (one ∷ first) more is = absurd (let bad = is in cc)

some_given : (done : List UnfoldedLine) (one : UnfoldedLine) → done ++ one ∷ [] ≡ [] → ⊥
some_given [] one is = absurd (let bad = is in cc)
some_given (other ∷ done) one is = absurd (let bad = is in cc)

past_leads : (before after : Stage) (done gives : List UnfoldedLine) (n : ℕ) → Leads before done after → done ≡ []
    → Rested n before gives
    → Rested n after gives
past_leads before _ _ gives n steps.Leads.Stays none next = next
past_leads before _ _ gives n (steps.Leads.Passing done stage after leads fault moves) none next =
    passed n stage gives (past_leads before stage done gives n leads none next) after moves
past_leads before _ _ gives n (steps.Leads.Giving done stage after live known leads fault moves acts) none next =
    absurd (some_given done (given known live after) none)

no_limit : (n : ℕ) (stage : Stage) (gives : List UnfoldedLine) → Rested n stage gives → PassesLimit stage → ⊥
no_limit _ _ _ (Rested.AtRest n stage rests) passes = no_limit_at_rest stage rests passes
no_limit _ _ _ (Rested.Passing n stage after gives fault moves next) passes = no_pass stage after passes fault moves
no_limit _ _ _ (Rested.Giving n stage after live known gives fault moves acts next) passes =
    no_line stage after live passes fault moves acts

pub past_run : (before after : Stage) (gives : List UnfoldedLine) (n : ℕ) → Runs before [] (λ s. s ≡ after) → Rested n before gives
    → Rested n after gives
past_run before after gives n (inl there) next =
    subst (λ (s : Stage). Rested n s gives) there.holds (past_leads before there.stage [] gives n there.leads refl next)
past_run before after gives n (inr short) next =
    let none : short.first ≡ [] = nothing_first short.first short.more short.whole in
    absurd (no_limit n short.stage gives (past_leads before short.stage short.first gives n short.leads none next) short.passes)

-- ---- a line that becomes live

pub record LineGiven (n : ℕ) (one : KnownSymbols → UnfoldedLine) (after : KnownSymbols → Stage) (gives : List UnfoldedLine) : Type 0 where
  pub known : KnownSymbols
  pub more : List UnfoldedLine
  pub whole : gives ≡ one known ∷ more
  pub next : Rested n (after known) more

pub no_moves : (stage after : Stage) (live : Live) (gives : List UnfoldedLine) → Rested 0 stage gives → move stage ≡ Gives live after → ⊥
no_moves _ after live _ (Rested.AtRest n stage rests) moves
    = absurd (let bad : NothingLeft ≡ Gives live after = sym rests ∙ moves in cc)

given_first : (n m : ℕ) (stage : Stage) (gives : List UnfoldedLine) → Rested n stage gives → n ≡ suc m → (after : Stage) (live : Live)
    → move stage ≡ Gives live after
    → LineGiven m (λ known. given known live after) (λ known. (act known after live.line.text).after) gives
given_first _ m _ _ (Rested.AtRest n stage rests) is after live moves =
    absurd (let bad : NothingLeft ≡ Gives live after = sym rests ∙ moves in cc)
given_first _ m _ _ (Rested.Passing n stage other gives fault moves' next) is after live moves =
    absurd (let bad : Passes other ≡ Gives live after = sym moves' ∙ moves in cc)
given_first _ m _ _ (Rested.Giving n stage other live' known gives fault moves' acts next) is after live moves =
    let both : Gives live' other ≡ Gives live after = sym moves' ∙ moves in
    let same_live : live' ≡ live = cc in
    let same_stage : other ≡ after = cc in
    let fewer : n ≡ m = cc in
    let by : Live → Stage → UnfoldedLine = λ l s. given known l s in
    let told : given known live' other ≡ given known live after
    = ap (λ (l : Live). by l other) same_live ∙ ap (by live) same_stage in
    let end : (act known other live'.line.text).after ≡ (act known after live.line.text).after
    = ap (λ (l : Live). (act known other l.line.text).after) same_live
    ∙ ap (λ (s : Stage). (act known s live.line.text).after) same_stage in
    record {
      known = known;
      more = gives;
      whole = ap (λ (g : UnfoldedLine). g ∷ gives) told;
      next = subst (λ (s : Stage). Rested m s gives) end
          (subst (λ (k : ℕ). Rested k (act known other live'.line.text).after gives) fewer next);
    }

module _ (n : ℕ) (level : Level) (situation : Situation) (line : SourceLine) (left : List RemainingItem) (gives : List UnfoldedLine) where
  abbrev here : Stage
  here = stage_of level (counting 1 situation) left

  abbrev live : Live
  live = record { line = line; is_expanded = is_expanding left }

  -- if the next move makes a line live, it is the first live line, and the others follow from the effect of its operator
  pub line_given : (acted : KnownSymbols → Acted) → marks left ≡ level.around
      → move (stage_of level situation (Line line ∷ left)) ≡ Gives live here
      → ((known : KnownSymbols) → acted_by known line.text here (operation_at level situation line) ≡ acted known)
      → Rested (suc n) (stage_of level situation (Line line ∷ left)) gives
      → LineGiven n (λ known. shown level known line (acted known)) (λ known. (acted known).after) gives
  line_given acted around moves acts rested =
      let first = given_first (suc n) n (stage_of level situation (Line line ∷ left)) gives rested refl here live moves in
      let told : List Mark → Acted → UnfoldedLine = λ m a. record {
        live = record { line = line; is_expanded = has_mark m };
        known = first.known;
        is_own = a.is_own;
        remarks = a.remarks;
        arguments = count_in m;
      } in
      let same : given first.known live here ≡ shown level first.known line (acted first.known)
      = ap (told (marks left)) (acts first.known) ∙ ap (λ (m : List Mark). told m (acted first.known)) around in
      record {
        known = first.known;
        more = first.more;
        whole = first.whole ∙ ap (λ (g : UnfoldedLine). g ∷ first.more) same;
        next = subst (λ (a : Acted). Rested n a.after first.more) (acts first.known) first.next;
      }

  pub live_moves : is_live_inside level.entered ≡ true → move (stage_of level situation (Line line ∷ left)) ≡ Gives live here
  live_moves taking =
      ap (λ (b : Bool). live_or_skipped (if not b then skipped_by (only_entered level.entered) (directive line.text) else None)
      line here) taking

-- if the next move makes a line live, it is the first live line, whatever the number of moves is
pub given_next : (n : ℕ) (stage : Stage) (gives : List UnfoldedLine) → Rested n stage gives → (after : Stage) (live : Live)
    → move stage ≡ Gives live after
    → LineGiven n (λ known. given known live after) (λ known. (act known after live.line.text).after) gives
given_next zero stage gives rested after live moves = absurd (no_moves stage after live gives rested moves)
given_next (suc n) stage gives rested after live moves =
    let first = given_first (suc n) n stage gives rested refl after live moves in
    record {
      known = first.known;
      more = first.more;
      whole = first.whole;
      next = lifted n (act first.known after live.line.text).after first.more first.next;
    }

-- a stage with this property, from which these lines become live before nothing is left
pub record Onward (P : Stage → Type 0) (n : ℕ) (gives : List UnfoldedLine) : Type 0 where
  pub stage : Stage
  pub holds : P stage
  pub next : Rested n stage gives

pub past_to : (P : Stage → Type 0) (before : Stage) (gives : List UnfoldedLine) (n : ℕ) → Runs before [] P → Rested n before gives
    → Onward P n gives
past_to P before gives n (inl there) next =
    record { stage = there.stage; holds = there.holds; next = past_leads before there.stage [] gives n there.leads refl next }
past_to P before gives n (inr short) next =
    let none : short.first ≡ [] = nothing_first short.first short.more short.whole in
    absurd (no_limit n short.stage gives (past_leads before short.stage short.first gives n short.leads none next) short.passes)

-- if nothing is left, no line becomes live
pub rests_nowhere : (n : ℕ) (stage : Stage) (gives : List UnfoldedLine) → Rested n stage gives → move stage ≡ NothingLeft → gives ≡ []
rests_nowhere _ _ _ (Rested.AtRest n stage is) rests = refl
rests_nowhere _ _ _ (Rested.Passing n stage after gives fault moves next) rests =
    absurd (let bad : Passes after ≡ NothingLeft = sym moves ∙ rests in cc)
rests_nowhere _ _ _ (Rested.Giving n stage after live known gives fault moves acts next) rests =
    absurd (let bad : Gives live after ≡ NothingLeft = sym moves ∙ rests in cc)

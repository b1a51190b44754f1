-- Runs: unfoldings that reach a stage of some kind, or that a limit cuts short.
use Rattle.std.proofs.Common.{◌≡◌, ◌∙◌, ◌⊎◌, inl, inr, List, [], ◌∷◌, ◌++◌, append_assoc, Option, Some, None, refl, sym, ap, subst}
use Rattle.m11_scan_expressions.specs.Expressions.{KnownSymbols}
use Rattle.m11_unfold_rules.specs.Acting.{Acted, act, act_fault}
use Rattle.m11_unfold_rules.specs.Limits.{next_fault}
use Rattle.m11_unfold_rules.specs.Stages.{Stage}
use Rattle.m11_unfold_rules.specs.Taking.{Gives, Live, Passes, move}
use Rattle.m11_unfold_rules.specs.Unfolding.{UnfoldedLine, Leads, given}
use Rattle.m11_unfold_rules.specs.Unfolding as steps
use Rattle.m11_unfold_rules.specs.declared.fault.UnfoldFault.{UnfoldFault}
use Rattle.m11_unfold_rules.proofs.Following.{follows}
use Rattle.m11_unfold_laws.specs.Limits.{IsCutShort, PassesLimit}

pub record Arrives (before : Stage) (gives : List UnfoldedLine) (P : Stage → Type 0) : Type 0 where
  pub stage : Stage
  pub leads : Leads before gives stage
  pub holds : P stage

abbrev pub Runs : Stage → List UnfoldedLine → (Stage → Type 0) → Type 0
Runs before gives P = Arrives before gives P ⊎ IsCutShort before gives

pub stays : (P : Stage → Type 0) (stage : Stage) → P stage → Runs stage [] P
stays P stage holds = inl (record { stage = stage; leads = steps.Leads.Stays; holds = holds })

-- a run followed by another run is a run
pub and_then : (P Q : Stage → Type 0) (before : Stage) (gives later : List UnfoldedLine) → Runs before gives P
    → ((stage : Stage) → P stage → Runs stage later Q) → Runs before (gives ++ later) Q
and_then P Q before gives later (inr short) next = inr (record {
  first = short.first;
  more = short.more ++ later;
  whole = ap (λ (g : List UnfoldedLine). g ++ later) short.whole ∙ append_assoc short.first short.more later;
  stage = short.stage;
  leads = short.leads;
  passes = short.passes;
})
and_then P Q before gives later (inl here) next = joined (next here.stage here.holds) where
  joined : Runs here.stage later Q → Runs before (gives ++ later) Q
  joined (inl there) = inl (record {
    stage = there.stage;
    leads = follows before here.stage there.stage gives later here.leads there.leads;
    holds = there.holds;
  })
  joined (inr short) = inr (record {
    first = gives ++ short.first;
    more = short.more;
    whole = ap (λ (g : List UnfoldedLine). gives ++ g) short.whole ∙ sym (append_assoc gives short.first short.more);
    stage = short.stage;
    leads = follows before here.stage short.stage gives short.first here.leads short.leads;
    passes = short.passes;
  })

-- a run from a stage is also a run from an equal stage
pub from_same : (P : Stage → Type 0) (one other : Stage) (gives : List UnfoldedLine) → one ≡ other → Runs other gives P
    → Runs one gives P
from_same P one other gives same runs =
    let Q : Stage → Type 0 = λ s. Runs s gives P in
    subst Q (sym same) runs

-- a run that reaches a stage with one property reaches one with any property that follows from it
pub weakened : (P Q : Stage → Type 0) (before : Stage) (gives : List UnfoldedLine) → ((stage : Stage) → P stage → Q stage)
    → Runs before gives P → Runs before gives Q
weakened P Q before gives next (inl here)
    = inl (record { stage = here.stage; leads = here.leads; holds = next here.stage here.holds })
weakened P Q before gives next (inr short) = inr short

-- a move by which no line becomes live is a run without live lines
pub passes : (P : Stage → Type 0) (before after : Stage) → move before ≡ Passes after → P after → Runs before [] P
passes P before after moves holds = by_fault (next_fault before) refl where
  by_fault : (fault : Option UnfoldFault) → next_fault before ≡ fault → Runs before [] P
  by_fault None is = inl (record {
    stage = after;
    leads = steps.Leads.Passing [] before after steps.Leads.Stays is moves;
    holds = holds;
  })
  by_fault (Some fault) is = inr (record {
    first = [];
    more = [];
    whole = refl;
    stage = before;
    leads = steps.Leads.Stays;
    passes = PassesLimit.Taking fault is;
  })

-- a move by which a line becomes live, and the execution of its operator, are a run with this live line
pub gives_line : (P : Stage → Type 0) (before after : Stage) (live : Live) (known : KnownSymbols) (one : UnfoldedLine) (acted : Acted)
    → move before ≡ Gives live after → act known after live.line.text ≡ acted → given known live after ≡ one → P acted.after
    → Runs before (one ∷ []) P
gives_line P before after live known one acted moves acts shown holds =
    let Q : Stage → Type 0 = λ s. P s in
    let holds' : P (act known after live.line.text).after = subst (λ (a : Acted). P a.after) (sym acts) holds in
    let R : UnfoldedLine → Type 0 = λ g. Runs before (g ∷ []) P in
    subst R shown (by_taking (next_fault before) refl (act_fault after live.line.text) refl holds') where
      short_by : PassesLimit before → Runs before (given known live after ∷ []) P
      short_by passed = inr (record {
        first = [];
        more = given known live after ∷ [];
        whole = refl;
        stage = before;
        leads = steps.Leads.Stays;
        passes = passed;
      })

      by_taking : (fault : Option UnfoldFault) → next_fault before ≡ fault → (acting : Option UnfoldFault)
          → act_fault after live.line.text ≡ acting → P (act known after live.line.text).after
          → Runs before (given known live after ∷ []) P
      by_taking (Some fault) is acting was stands = short_by (PassesLimit.Taking fault is)
      by_taking None is (Some fault) was stands = short_by (PassesLimit.Acting fault live after is moves was)
      by_taking None is None was stands = inl (record {
        stage = (act known after live.line.text).after;
        leads = steps.Leads.Giving [] before after live known steps.Leads.Stays is moves was;
        holds = stands;
      })

-- a move by which no line becomes live, followed by a run, is a run with the same live lines
pub passes_on : (P : Stage → Type 0) (before after : Stage) (gives : List UnfoldedLine) → move before ≡ Passes after → Runs after gives P
    → Runs before gives P
passes_on P before after gives moves runs =
    and_then (λ s. s ≡ after) P before [] gives (passes (λ s. s ≡ after) before after moves refl)
    (λ s is. from_same P s after gives is runs)

-- a run that can reach only one stage leads to that stage, or is cut short
pub arrived : (before after : Stage) (gives : List UnfoldedLine) → Runs before gives (λ s. s ≡ after)
    → Leads before gives after ⊎ IsCutShort before gives
arrived before after gives (inl there) = inl (subst (λ (s : Stage). Leads before gives s) there.holds there.leads)
arrived before after gives (inr short) = inr short

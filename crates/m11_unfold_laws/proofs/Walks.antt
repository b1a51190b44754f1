-- An unfolding followed move by move.
use Rattle.std.proofs.Common.{◌≡◌, ℕ, zero, suc, List, [], ◌∷◌, Option, Some, None, refl, subst}
use Rattle.m11_scan_expressions.specs.Expressions.{KnownSymbols}
use Rattle.m11_unfold_rules.specs.Acting.{act, act_fault}
use Rattle.m11_unfold_rules.specs.Limits.{next_fault}
use Rattle.m11_unfold_rules.specs.Stages.{Stage}
use Rattle.m11_unfold_rules.specs.Taking.{Gives, Live, Move, Passes, NothingLeft, move}
use Rattle.m11_unfold_rules.specs.Unfolding.{UnfoldedLine, Leads, given}
use Rattle.m11_unfold_rules.specs.Unfolding as steps
use Rattle.m11_unfold_rules.specs.declared.fault.UnfoldFault.{UnfoldFault}
use Rattle.m11_unfold_rules.proofs.Following.{follows}

pub record Walk : Type 0 where
  pub gives : List UnfoldedLine
  pub after : Stage

abbrev with_line : UnfoldedLine → Option Walk → Option Walk
with_line one None = None
with_line one (Some rest) = Some (record { gives = one ∷ rest.gives; after = rest.after })

abbrev by_acting : KnownSymbols → Live → Stage → (Stage → Option Walk) → Option UnfoldFault → Option Walk
by_acting known live after more (Some fault) = None
by_acting known live after more None = with_line (given known live after) (more (act known after live.line.text).after)

abbrev by_move : KnownSymbols → Stage → (Stage → Option Walk) → Move → Option Walk
by_move known stage more NothingLeft = Some (record { gives = []; after = stage })
by_move known stage more (Passes after) = more after
by_move known stage more (Gives live after) = by_acting known live after more (act_fault after live.line.text)

abbrev by_taking : KnownSymbols → Stage → (Stage → Option Walk) → Option UnfoldFault → Option Walk
by_taking known stage more (Some fault) = None
by_taking known stage more None = by_move known stage more (move stage)

-- the live lines up to the stage where nothing is left, and this stage; None if a limit is exceeded first, or if it takes more moves than
-- this
abbrev pub walk : ℕ → KnownSymbols → Stage → Option Walk
walk zero known stage = None
walk (suc n) known stage = by_taking known stage (λ after. walk n known after) (next_fault stage)

abbrev Led : Stage → Walk → Type 0
Led stage all = Leads stage all.gives all.after × (move all.after ≡ NothingLeft)

module _ (known : KnownSymbols) (stage : Stage) (more : Stage → Option Walk) (all : Walk)
    (leads : (after : Stage) (rest : Walk) → more after ≡ Some rest → Led after rest) where
  acted_so : (live : Live) (after : Stage) → next_fault stage ≡ None → move stage ≡ Gives live after
      → (acting : Option UnfoldFault)
      → act_fault after live.line.text ≡ acting → by_acting known live after more acting ≡ Some all → Led stage all
  acted_so live after none gives (Some fault) acts is = absurd (let bad = is in cc)
  acted_so live after none gives None acts is = with_rest (more next) refl is where
    next : Stage
    next = (act known after live.line.text).after

    with_rest : (rest : Option Walk) → more next ≡ rest → with_line (given known live after) rest ≡ Some all → Led stage all
    with_rest None was is = absurd (let bad = is in cc)
    with_rest (Some rest) was is =
        let whole : record { gives = given known live after ∷ rest.gives; after = rest.after } ≡ all = cc in
        let on = leads next rest was in
        let joined : Leads stage (given known live after ∷ rest.gives) rest.after
        = follows stage next rest.after (given known live after ∷ []) rest.gives
        (steps.Leads.Giving [] stage after live known steps.Leads.Stays none gives acts) on.0 in
        subst (Led stage) whole (joined, on.1)

  moved_so : next_fault stage ≡ None → (moves : Move) → move stage ≡ moves → by_move known stage more moves ≡ Some all
      → Led stage all
  moved_so none NothingLeft moves is =
      let whole : record { gives = []; after = stage } ≡ all = cc in
      subst (Led stage) whole (steps.Leads.Stays, moves)
  moved_so none (Passes after) moves is =
      let on = leads after all is in
      (follows stage after all.after [] all.gives (steps.Leads.Passing [] stage after steps.Leads.Stays none moves) on.0, on.1)
  moved_so none (Gives live after) moves is = acted_so live after none moves (act_fault after live.line.text) refl is

  taken_so : (taking : Option UnfoldFault) → next_fault stage ≡ taking → by_taking known stage more taking ≡ Some all
      → Led stage all
  taken_so (Some fault) none is = absurd (let bad = is in cc)
  taken_so None none is = moved_so none (move stage) refl is

pub walked : (n : ℕ) (known : KnownSymbols) (stage : Stage) (all : Walk) → walk n known stage ≡ Some all → Led stage all
walked zero known stage all is = absurd (let bad = is in cc)
walked (suc n) known stage all is =
    taken_so known stage (λ after. walk n known after) all (λ after rest was. walked n known after rest was) (next_fault stage)
    refl is

use Rattle.std.proofs.Common.{[], Ok, subst}
use Rattle.m11_unfold_rules.specs.Unfolding as steps
use Rattle.m11_unfold.specs.Steps.{Moves}
use Rattle.m11_unfold.specs.Views.{stage_of}
use Rattle.m11_unfold.specs.declared.taking.MoveResult.{MoveResult}
use Rattle.m11_unfold.proofs.Keeping.{Keeps, kept_next}
use Rattle.m11_unfold.proofs.state.State.move_on.Goals as goal

pub moves-init : goal.moves-init
moves-init c = record { passing = steps.Leads.Stays; kept = c.requires }

pub moves-smaller : goal.moves-smaller
moves-smaller c =
    let before = stage_of c.moves.self in
    let after = stage_of c.advance.new.self in
    let P : MoveResult → Type 0 = λ m. Moves before after c.advance.new.line (Ok m) in
    let moves = subst P c.in-Passes.is c.in_ok-advance.ensures.moves in
    let keeps = subst (Keeps before) moves.1 (kept_next before c.moves.invariant.kept moves.0) in
    keeps.1

pub moves-preserved : goal.moves-preserved
moves-preserved c =
    let before = stage_of c.moves.self in
    let after = stage_of c.advance.new.self in
    let P : MoveResult → Type 0 = λ m. Moves before after c.advance.new.line (Ok m) in
    let moves = subst P c.in-Passes.is c.in_ok-advance.ensures.moves in
    let keeps = subst (Keeps before) moves.1 (kept_next before c.moves.invariant.kept moves.0) in
    record {
      passing = steps.Leads.Passing [] before after c.moves.invariant.passing moves.0 moves.1;
      kept = keeps.0;
    }

pub returns-in-Gives-clause-kept : goal.returns-in-Gives-clause-kept
returns-in-Gives-clause-kept c =
    let before = stage_of c.moves.self in
    let after = stage_of c.advance.new.self in
    let P : MoveResult → Type 0 = λ m. Moves before after c.advance.new.line (Ok m) in
    let moves = subst P c.in-Gives.is c.in_ok-advance.ensures.moves in
    subst (Keeps before) moves.1 (kept_next before c.moves.invariant.kept moves.0)

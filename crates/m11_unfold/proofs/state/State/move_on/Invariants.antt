use Rattle.std.proofs.Common.{[]}
use Rattle.m11_unfold_rules.specs.Unfolding.{Leads}
use Rattle.m11_unfold.specs.Kept.{IsKept}
use Rattle.m11_unfold.specs.Views.{stage_of}
use Rattle.m11_unfold.proofs.Keeping.{work_left}
use Rattle.m11_unfold.proofs.state.State.move_on.Given as goal

abbrev pub invariant-moves : goal.invariant-moves
invariant-moves l = record {
  passing : Leads (stage_of l.initial.self) [] (stage_of l.self);
  kept : IsKept (stage_of l.self);
}

abbrev pub decreases-moves : goal.decreases-moves
decreases-moves l = work_left (stage_of l.self)

use Rattle.std.proofs.Common.{refl, subst}
use Rattle.m11_unfold_rules.specs.Unfolding as steps
use Rattle.m11_unfold.specs.Views.{stage_of}
use Rattle.m11_unfold.proofs.Keeping.{Keeps, kept_next}
use Rattle.m11_unfold.proofs.state.State.next_live.Goals as goal

pub returns-then-read_live_line-clause-steps : goal.returns-then-read_live_line-clause-steps
returns-then-read_live_line-clause-steps c =
    let moves = c.if-read_live_line.ensures.moves refl in
    record {
      middle = stage_of c.args.self.now;
      passing = steps.Leads.Stays;
      is_within = moves.0;
      gives = moves.1;
    }

pub returns-then-read_live_line-clause-kept : goal.returns-then-read_live_line-clause-kept
returns-then-read_live_line-clause-kept c =
    let before = stage_of c.args.self.now in
    let moves = c.if-read_live_line.ensures.moves refl in
    subst (Keeps before) moves.1 (kept_next before c.requires moves.0)

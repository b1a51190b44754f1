use Rattle.std.proofs.Common.{sym, subst}
use Rattle.m11_unfold.specs.Purposes.{IsFew}
use Rattle.m11_unfold.proofs.Counted.{few_header}
use Rattle.m11_unfold.proofs.state.State.act_header.Goals as goal

pub defining-requires : goal.defining-requires
defining-requires c = subst IsFew (sym c.in_ok-header.ensures.header) (few_header c.args.line.now.text c.args.column)

use Rattle.std.proofs.Common.{refl}
use Rattle.m11_link_layout.proofs.Standing.{begins}
use Rattle.m11_link_layout.proofs.layout.Layout.with_seed.Goals as goal

pub returns : goal.returns
returns c = begins c.args.bottom _ c.new.ensures c.new-2.ensures refl c.new-3.ensures

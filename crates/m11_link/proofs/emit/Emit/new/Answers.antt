use Rattle.std.proofs.Common.{refl}
use Rattle.m11_link.proofs.Emitted.{stands_first}
use Rattle.m11_link.proofs.emit.Emit.new.Goals as goal

pub returns-clause-stands : goal.returns-clause-stands
returns-clause-stands c = stands_first c.args.plan _ c.new.ensures c.new-2.ensures refl c.new-3.ensures

use Rattle.std.proofs.Common.{◌∙◌, ap}
use Rattle.std.specs.Option.{is_some}
use Rattle.std.proofs.Math.Facts.{Fits-lt-pow}
use Rattle.m11_scan.proofs.Packed.{six_some}
use Rattle.m11_scan.proofs.names.read_name.Goals as goal

pub returns-clause-some : goal.returns-clause-some
returns-clause-some c all =
    ap is_some c.pack_first.ensures ∙ six_some c.args.text.now (λ i. Fits-lt-pow (c.type_inv.text i)) all

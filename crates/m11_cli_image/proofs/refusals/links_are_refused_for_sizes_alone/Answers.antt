use Rattle.m11_cli_image.proofs.ItemsTaken.{may_stop}
use Rattle.m11_cli_image.proofs.refusals.links_are_refused_for_sizes_alone.Goals as goal

pub returns : goal.returns
returns c = may_stop

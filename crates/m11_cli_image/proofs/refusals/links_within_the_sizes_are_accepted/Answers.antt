use Rattle.m11_cli_image.proofs.ItemsTaken.{are_taken}
use Rattle.m11_cli_image.proofs.refusals.links_within_the_sizes_are_accepted.Goals as goal

pub returns : goal.returns
returns c = are_taken

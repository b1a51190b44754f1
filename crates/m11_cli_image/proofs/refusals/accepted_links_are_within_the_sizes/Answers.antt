use Rattle.m11_cli_image.proofs.WithinSizes.{are_within}
use Rattle.m11_cli_image.proofs.refusals.accepted_links_are_within_the_sizes.Goals as goal

pub returns : goal.returns
returns c = are_within

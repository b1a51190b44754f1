use Rattle.m11_cli_image.proofs.SizesAdded.{has_contributions}
use Rattle.m11_cli_image.proofs.links.sections_have_the_sizes_of_their_contributions.Goals as goal

pub returns : goal.returns
returns c = has_contributions

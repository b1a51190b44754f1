use Rattle.m11_cli_image.proofs.LinkedLocations.{lies_by_sources}
use Rattle.m11_cli_image.proofs.links.links_lie_by_their_sources.Goals as goal

pub returns : goal.returns
returns c = lies_by_sources

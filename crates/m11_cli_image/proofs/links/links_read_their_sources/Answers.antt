use Rattle.m11_cli_image.proofs.LinkedSources.{has_sources}
use Rattle.m11_cli_image.proofs.links.links_read_their_sources.Goals as goal

pub returns : goal.returns
returns c = has_sources

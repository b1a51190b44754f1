use Rattle.m11_cli_image.proofs.LinkedTapes.{are_linked}
use Rattle.m11_cli_image.proofs.links.links_write_the_texts_of_their_sources.Goals as goal

pub returns : goal.returns
returns c = are_linked

use Rattle.m11_cli_image.proofs.LinkedTexts.{source_texts_linked}
use Rattle.m11_cli_image.proofs.links.links_have_the_texts_of_their_sources.Goals as goal

pub returns : goal.returns
returns c = source_texts_linked

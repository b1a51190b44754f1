use Rattle.m11_cli_image.proofs.NoMessages.{silent_links_agree}
use Rattle.m11_cli_image.proofs.unreported.links_without_messages_agree.Goals as goal

pub returns : goal.returns
returns c bottom sources = silent_links_agree bottom sources (c.links_read_their_sources.ensures sources)

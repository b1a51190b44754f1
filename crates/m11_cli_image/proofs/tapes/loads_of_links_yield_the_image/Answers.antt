use Rattle.m11_cli_image.proofs.TapesHold.{load_given}
use Rattle.m11_cli_image.proofs.tapes.loads_of_links_yield_the_image.Goals as goal

pub returns : goal.returns
returns c = load_given

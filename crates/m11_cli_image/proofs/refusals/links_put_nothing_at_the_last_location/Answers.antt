use Rattle.m11_cli_image.proofs.LastLocation.{none_fill}
use Rattle.m11_cli_image.proofs.refusals.links_put_nothing_at_the_last_location.Goals as goal

pub returns : goal.returns
returns c = none_fill

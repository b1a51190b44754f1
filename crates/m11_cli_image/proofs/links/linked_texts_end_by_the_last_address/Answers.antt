use Rattle.m11_cli_image.proofs.TextsInside.{texts_end_inside}
use Rattle.m11_cli_image.proofs.links.linked_texts_end_by_the_last_address.Goals as goal

pub returns : goal.returns
returns c = texts_end_inside

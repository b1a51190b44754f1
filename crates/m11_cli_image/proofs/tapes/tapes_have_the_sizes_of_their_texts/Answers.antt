use Rattle.m11_cli_image.proofs.TapeSizes.{tape_length}
use Rattle.m11_cli_image.proofs.tapes.tapes_have_the_sizes_of_their_texts.Goals as goal

pub returns : goal.returns
returns c = tape_length

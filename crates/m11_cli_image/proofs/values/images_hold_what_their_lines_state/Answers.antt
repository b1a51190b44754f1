use Rattle.m11_cli_image.proofs.SourcesLie.{image_lies}
use Rattle.m11_cli_image.proofs.values.images_hold_what_their_lines_state.Goals as goal

pub returns : goal.returns
returns c bottom all sources are agree address =
    image_lies c.placements_are_the_same_under_every_map.ensures bottom sources all are agree address

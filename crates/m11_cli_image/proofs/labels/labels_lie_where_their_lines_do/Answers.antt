use Rattle.m11_cli_image.proofs.LabelsLie.{label_lies}
use Rattle.m11_cli_image.proofs.labels.labels_lie_where_their_lines_do.Goals as goal

pub returns : goal.returns
returns c bottom all sources index lines line other name context here are agree own has =
    label_lies c.placements_are_the_same_under_every_map.ensures bottom sources all are agree index lines own name line has other context here

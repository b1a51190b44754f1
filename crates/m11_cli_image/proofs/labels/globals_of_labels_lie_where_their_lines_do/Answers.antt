use Rattle.m11_cli_image.proofs.LabelsLie.{global_label_lies}
use Rattle.m11_cli_image.proofs.labels.globals_of_labels_lie_where_their_lines_do.Goals as goal

pub returns : goal.returns
returns c bottom all sources = global_label_lies c.placements_are_the_same_under_every_map.ensures bottom sources all

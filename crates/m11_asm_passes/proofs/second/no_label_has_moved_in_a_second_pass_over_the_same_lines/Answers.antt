use Rattle.m11_asm_passes.proofs.Unmoved.{none_moves}
use Rattle.m11_asm_passes.proofs.second.no_label_has_moved_in_a_second_pass_over_the_same_lines.Goals as goal

pub returns : goal.returns
returns c = none_moves c.placements_are_the_same_under_every_map.ensures c.the_map_of_a_source_solves_it.ensures

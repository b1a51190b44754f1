use Rattle.m11_asm_passes.proofs.Within.{no_limit, no_name}
use Rattle.m11_asm_passes.proofs.second.a_second_pass_over_the_same_lines_passes_no_limit.Goals as goal

pub returns-clause-limits : goal.returns-clause-limits
returns-clause-limits c = no_limit c.placements_are_the_same_under_every_map.ensures

pub returns-clause-names : goal.returns-clause-names
returns-clause-names c = no_name c.placements_are_the_same_under_every_map.ensures

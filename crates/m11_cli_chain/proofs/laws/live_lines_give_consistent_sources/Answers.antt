use Rattle.m11_cli_chain.proofs.ConsistentSources.{is_consistent}
use Rattle.m11_cli_chain.proofs.laws.live_lines_give_consistent_sources.Goals as goal

pub returns : goal.returns
returns c = is_consistent c.placements_are_the_same_under_every_map.ensures c.a_line_fills_what_it_steps_by.ensures

use Rattle.m11_asm_passes.specs.Lines.{givens}
use Rattle.m11_asm_rules.specs.Placements.{program_map}
use Rattle.m11_cli_chain.proofs.FirstSection.{begins_with_absolute}
use Rattle.m11_cli_chain.proofs.LiveLocations.{pieces_at_words}
use Rattle.m11_cli_chain.proofs.laws.live_lines_begin_with_the_absolute_section.Goals as goal

pub returns-clause-first : goal.returns-clause-first
returns-clause-first c = begins_with_absolute

pub returns-clause-locations : goal.returns-clause-locations
returns-clause-locations c = λ lines. pieces_at_words (program_map (givens lines)) lines

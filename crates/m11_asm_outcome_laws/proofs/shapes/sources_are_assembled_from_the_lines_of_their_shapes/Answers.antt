use Rattle.m11_asm_outcome_laws.proofs.Shaped.{shapes_written}
use Rattle.m11_asm_outcome_laws.proofs.shapes.sources_are_assembled_from_the_lines_of_their_shapes.Goals as goal

pub returns : goal.returns
returns c =
    shapes_written c.a_source_has_just_the_live_lines_of_its_shape.ensures.just_these c.outcomes_are_those_of_whole_sources.ensures.are

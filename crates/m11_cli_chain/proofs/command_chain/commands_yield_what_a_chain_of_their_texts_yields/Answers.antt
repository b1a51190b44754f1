use Rattle.m11_cli_chain.proofs.CommandsChained.{yields_chain}
use Rattle.m11_cli_chain.proofs.command_chain.commands_yield_what_a_chain_of_their_texts_yields.Goals as goal

pub returns : goal.returns
returns c =
    yields_chain c.assemblies_leave_the_objects_of_their_sources.ensures c.links_leave_the_tapes_of_their_objects.ensures
    c.runs_begin_with_the_image_of_their_sources.ensures c.links_write_the_texts_of_their_sources.ensures
    c.loads_of_links_yield_the_image.ensures c.accepted_links_are_within_the_sizes.ensures c.tapes_have_the_sizes_of_their_texts.ensures

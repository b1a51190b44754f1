use Rattle.m11_cli_chain.proofs.ImagesRun.{runs_chain, runs_only}
use Rattle.m11_cli_chain.proofs.commands.runs_begin_with_the_image_of_their_sources.Goals as goal

pub returns : goal.returns
returns c = λ words sim done old new before after texts bottom objects tape planned obeys fresh are is_tape has. (
  runs_only c.links_write_the_texts_of_their_sources.ensures c.loads_of_links_yield_the_image.ensures
      c.accepted_links_are_within_the_sizes.ensures c.tapes_have_the_sizes_of_their_texts.ensures texts bottom objects tape are is_tape
      old new fresh done words before after obeys,
  runs_chain c.links_write_the_texts_of_their_sources.ensures c.loads_of_links_yield_the_image.ensures
      c.accepted_links_are_within_the_sizes.ensures c.tapes_have_the_sizes_of_their_texts.ensures texts bottom objects tape are is_tape
      old new fresh done words sim before after planned obeys has,
)

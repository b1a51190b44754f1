use Rattle.m11_cli_chain.proofs.SourcesGiven.{all_given}
use Rattle.m11_cli_chain.proofs.stated.live_lines_give_their_sources.Goals as goal

pub returns : goal.returns
returns c = all_given

use Rattle.m11_cli_chain.proofs.ObjectOfTexts.{assembly_yields}
use Rattle.m11_cli_chain.proofs.laws.known_sources_decide_the_assembly.Goals as goal

pub returns : goal.returns
returns g c = λ first again second later texts old new returned known known' runs.
    assembly_yields c.the_object_is_the_blocks_of_its_contents.ensures texts old new returned
    (c.known_sources_write_their_live_lines.ensures first again second later texts old new returned known known' runs)

use Rattle.m11_asm_outcome_laws.proofs.LiveWritten.{run_comes_to}
use Rattle.m11_cli_chain.proofs.ObjectOfTexts.{assembly_yields}
use Rattle.m11_cli_chain.proofs.ObjectsLeft.{leaves_object}
use Rattle.m11_cli_chain.proofs.commands.assemblies_leave_the_objects_of_their_sources.Goals as goal

pub returns : goal.returns
returns c = λ words asm done old new before after texts planned obeys fresh are apart.
    leaves_object
    (λ sources first again second later from to returned known known' runs.
    assembly_yields c.the_object_is_the_blocks_of_its_contents.ensures sources from to returned
    (run_comes_to c.the_same_lines_are_read_alike.ensures.ends c.a_second_pass_over_the_same_lines_passes_no_limit.ensures.limits
    (λ s. s.text) (λ s. s.faults) sources first again second later known known' from to returned runs))
    texts old new fresh done words asm before after planned obeys are apart

use Rattle.m11_asm_outcome_laws.proofs.LiveWritten.{run_comes_to}
use Rattle.m11_asm_outcome_laws.proofs.beginnings.known_sources_write_their_live_lines.Goals as goal

pub returns : goal.returns
returns g c = λ first again second later sources old new returned known known' runs.
    run_comes_to c.the_same_lines_are_read_alike.ensures.ends c.a_second_pass_over_the_same_lines_passes_no_limit.ensures.limits
    g.F.Feed.text g.F.Feed.faults sources first again second later known known' old new returned runs

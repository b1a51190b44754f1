use Rattle.m11_asm_outcome_laws.proofs.RunsDecided.{run_decided}
use Rattle.m11_asm_outcome_laws.proofs.beginnings.known_sources_decide_the_run.Goals as goal

pub returns : goal.returns
returns g c = λ first again second later sources all old new returned assembles known known' runs.
    let law = c.a_pass_has_one_end.ensures in
    let same = c.the_same_lines_are_read_alike.ensures in
    run_decided law.ends law.exceeds law.either same.ends same.begins
    c.a_second_pass_over_the_same_lines_passes_no_limit.ensures.limits g.F.Feed.text g.F.Feed.faults sources first again second later known known'
    old new all assembles returned runs

use Rattle.m11_asm_passes.proofs.Freely.{begins_with, ends_alike, go_on}
use Rattle.m11_asm_passes.proofs.second.the_same_lines_are_read_alike.Goals as goal

pub returns-clause-goes_on : goal.returns-clause-goes_on
returns-clause-goes_on c = go_on c.placements_are_the_same_under_every_map.ensures

pub returns-clause-begins : goal.returns-clause-begins
returns-clause-begins c = λ one other counting others all source read rest lines later stage after ends passes whole.
    begins_with c.placements_are_the_same_under_every_map.ensures one other counting others all source lines stage ends read rest later after
    passes whole

pub returns-clause-ends : goal.returns-clause-ends
returns-clause-ends c = λ one other counting others all source read lines later stage after ends ends'.
    ends_alike c.placements_are_the_same_under_every_map.ensures one other counting others all source lines stage ends read later after ends'

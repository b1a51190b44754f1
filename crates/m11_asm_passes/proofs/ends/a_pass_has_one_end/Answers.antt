use Rattle.m11_asm_passes.proofs.Ending as ending
use Rattle.m11_asm_passes.proofs.ends.a_pass_has_one_end.Goals as goal

pub returns-clause-ends : goal.returns-clause-ends
returns-clause-ends c = ending.one_end_of_all

pub returns-clause-exceeds : goal.returns-clause-exceeds
returns-clause-exceeds c = ending.one_limit

pub returns-clause-either : goal.returns-clause-either
returns-clause-either c = ending.end_or_limit

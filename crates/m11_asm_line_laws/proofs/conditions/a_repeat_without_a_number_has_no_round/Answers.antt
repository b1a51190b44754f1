use Rattle.m11_asm_line_laws.proofs.Refused.{rounds-none, rounds-flagged}
use Rattle.m11_asm_line_laws.proofs.conditions.a_repeat_without_a_number_has_no_round.Goals as goal

pub returns-clause-none : goal.returns-clause-none
returns-clause-none c = rounds-none

pub returns-clause-flagged : goal.returns-clause-flagged
returns-clause-flagged c = rounds-flagged

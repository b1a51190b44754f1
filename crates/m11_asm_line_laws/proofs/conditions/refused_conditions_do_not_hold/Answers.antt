use Rattle.m11_asm_line_laws.proofs.Refused.{refused-false, refused-flagged}
use Rattle.m11_asm_line_laws.proofs.conditions.refused_conditions_do_not_hold.Goals as goal

pub returns-clause-off : goal.returns-clause-off
returns-clause-off c = refused-false

pub returns-clause-flagged : goal.returns-clause-flagged
returns-clause-flagged c = refused-flagged

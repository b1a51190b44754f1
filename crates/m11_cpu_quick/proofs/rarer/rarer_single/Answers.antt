use Rattle.m11_cpu_quick.proofs.StepsMade.{decoded_single}
use Rattle.m11_cpu_quick.proofs.rarer.rarer_single.Goals as goal

pub returns-clause-some : goal.returns-clause-some
returns-clause-some c = decoded_single c.args.code.word c.args.operation c.args.size c.args.operand _ _ c.requires c.in_ok-after.ensures.some

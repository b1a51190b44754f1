use Rattle.m11_cpu_quick.proofs.StepsMade.{decoded_return}
use Rattle.m11_cpu_quick.proofs.rarer.rarer_return.Goals as goal

pub returns-clause-some : goal.returns-clause-some
returns-clause-some c = decoded_return c.args.code.word c.args.register _ _ c.requires c.in_ok-target.ensures.some

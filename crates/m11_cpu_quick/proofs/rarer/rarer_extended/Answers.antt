use Rattle.m11_cpu_quick.proofs.StepsMade.{decoded_extended}
use Rattle.m11_cpu_quick.proofs.rarer.rarer_extended.Goals as goal

pub returns-clause-some : goal.returns-clause-some
returns-clause-some c =
    decoded_extended c.args.code.word c.args.operation c.args.register c.args.source _ _ c.requires c.in_ok-after.ensures.some

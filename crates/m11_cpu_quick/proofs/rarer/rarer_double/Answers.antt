use Rattle.m11_cpu_quick.proofs.StepsMade.{decoded_double}
use Rattle.m11_cpu_quick.proofs.rarer.rarer_double.Goals as goal

pub returns-clause-some : goal.returns-clause-some
returns-clause-some c =
    decoded_double c.args.code.word c.args.operation c.args.size c.args.source c.args.destination _ _ c.requires
    c.in_ok-after.ensures.some

use Rattle.std.proofs.Common.{rules}
use Rattle.m11_cpu_quick.proofs.StepsMade.{decoded}
use Rattle.m11_cpu_quick.proofs.rarer.rarer.Goals as goal

pub rarer_double-requires : goal.rarer_double-requires
rarer_double-requires c = decoded c.args.code.word _ (search rules) c.in-Double.ensures.instruction

pub rarer_single-requires : goal.rarer_single-requires
rarer_single-requires c = decoded c.args.code.word _ (search rules) c.in-Single.ensures.instruction

pub rarer_extended-requires : goal.rarer_extended-requires
rarer_extended-requires c = decoded c.args.code.word _ (search rules) c.in-Extended.ensures.instruction

pub on_register-requires : goal.on_register-requires
on_register-requires c = decoded c.args.code.word _ (search rules) c.in-Register.ensures.instruction

pub rarer_return-requires : goal.rarer_return-requires
rarer_return-requires c = decoded c.args.code.word _ (search rules) c.in-Rts.ensures.instruction

pub on_codes-requires : goal.on_codes-requires
on_codes-requires c = decoded c.args.code.word _ (search rules) c.in-Condition.ensures.instruction

pub rarer_bare-requires : goal.rarer_bare-requires
rarer_bare-requires c = decoded c.args.code.word _ (search rules) c.in-Bare.ensures.instruction

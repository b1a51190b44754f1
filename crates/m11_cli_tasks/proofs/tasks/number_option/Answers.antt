use Rattle.std.proofs.Common.{arith}
use Rattle.clap.specs.Words.{found_of}
use Rattle.std.specs.Str.Parse.{ParsesUnsigned, ExplainsUnsignedError, HasUnsignedDigitsIfOk}
use Rattle.m11_cli_tasks.proofs.Numbers.{above, absent, below, inside}
use Rattle.m11_cli_tasks.proofs.tasks.number_option.Goals as goal

pub returns-in-Some-clause-number : goal.returns-in-Some-clause-number
returns-in-Some-clause-number c =
    inside (λ bs r. ParsesUnsigned 32 10 bs r × ExplainsUnsignedError 10 bs r × HasUnsignedDigitsIfOk bs r)
    c.args.other c.args.least c.args.most (λ u x g. g.0) (omega arith) (found_of c.args.entries.now) c.args.id.now
    c.get_one.result c.get_one.ensures.none c.get_one.ensures.value c.in-Some.number c.in-Some.is
    c.if-least-number.true c.if-number-most.true

pub returns-in_default-clause-number : goal.returns-in_default-clause-number
returns-in_default-clause-number c =
    above (λ bs r. ParsesUnsigned 32 10 bs r × ExplainsUnsignedError 10 bs r × HasUnsignedDigitsIfOk bs r)
    c.args.other c.args.least c.args.most (λ u x g. g.0) (omega arith) (found_of c.args.entries.now) c.args.id.now
    c.get_one.result c.get_one.ensures.none c.get_one.ensures.value c.in-Some.number c.in-Some.is
    c.if-least-number.true c.if-number-most.false

pub returns-in_default-2-clause-number : goal.returns-in_default-2-clause-number
returns-in_default-2-clause-number c =
    below (λ bs r. ParsesUnsigned 32 10 bs r × ExplainsUnsignedError 10 bs r × HasUnsignedDigitsIfOk bs r)
    c.args.other c.args.least c.args.most (λ u x g. g.0) (omega arith) (found_of c.args.entries.now) c.args.id.now
    c.get_one.result c.get_one.ensures.none c.get_one.ensures.value c.in-Some.number c.in-Some.is
    c.if-least-number.false

pub returns-in_default-3-clause-number : goal.returns-in_default-3-clause-number
returns-in_default-3-clause-number c =
    absent (λ bs r. ParsesUnsigned 32 10 bs r × ExplainsUnsignedError 10 bs r × HasUnsignedDigitsIfOk bs r)
    c.args.other c.args.least c.args.most (λ u x g. g.0) (omega arith) (found_of c.args.entries.now) c.args.id.now
    c.get_one.result c.get_one.ensures.none c.get_one.ensures.value c.in_default.is

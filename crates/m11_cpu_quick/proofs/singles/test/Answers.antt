use Rattle.m11_cpu_quick.proofs.ResultsPut.{tests}
use Rattle.m11_cpu_quick.proofs.singles.test.Goals as goal

pub returns-clause-some : goal.returns-clause-some
returns-clause-some c =
    tests _ _ _ _ c.single-computed.result _ _ _ _ c.args.machine.now c.set_codes.new.self c.in_ok-value.ensures.some
    (rw c.codes.ensures at c.single-computed.ensures.computed) c.set_codes.ensures

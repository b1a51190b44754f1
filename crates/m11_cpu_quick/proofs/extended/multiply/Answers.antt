use Rattle.m11_cpu_quick.proofs.ResultsPut.{multiplies}
use Rattle.m11_cpu_quick.proofs.extended.multiply.Goals as goal

pub returns-clause-some : goal.returns-clause-some
returns-clause-some c =
    multiplies _ _ _ _ _ _ _ _ _ c.multiply-product.result c.args.machine.now c.set_codes.new.self c.requires.general
    c.in_ok-value.ensures.some (rw c.held.ensures at c.multiply-product.ensures) c.hold.ensures
    (rw c.low_word_of.ensures at c.hold-2.ensures) c.set_codes.ensures

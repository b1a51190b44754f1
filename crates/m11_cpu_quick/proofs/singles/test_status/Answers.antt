use Rattle.std.proofs.Common.{rules, refl}
use Rattle.m11_cpu_machine.specs.declared.addressing.OperandLocation.TheVariants.{InMemory}
use Rattle.m11_cpu_quick.specs.Beside.{shown}
use Rattle.m11_cpu_quick.proofs.OperandsFound.{at_absolute}
use Rattle.m11_cpu_quick.proofs.ResultsPut.{tests}
use Rattle.m11_cpu_quick.proofs.QuickDone.{location_fetched, single_reads}
use Rattle.m11_cpu_quick.proofs.singles.test_status.Goals as goal

pub returns-clause-some : goal.returns-clause-some
returns-clause-some c =
    single_reads _ _ _ _ _ refl
    (tests _ _ _ _ c.single-computed.result _ _ _ _ c.args.machine.now c.set_codes.new.self
    (location_fetched _ _ (InMemory c.in_ok-address.address) _ (shown _ _ c.args.machine.now) (shown _ _ c.args.machine.now)
    (at_absolute _ _ _ _ _ c.args.machine.now c.requires.0 c.requires.1 (search rules) c.in_ok-address.ensures.plain
    c.in_ok-address.ensures.value)
    (c.in_ok-value.ensures.value _ _ _))
    (rw c.codes.ensures at c.single-computed.ensures.computed) c.set_codes.ensures)

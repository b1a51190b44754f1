use Rattle.std.proofs.Common.{rules}
use Rattle.m11_cpu_quick.proofs.OperandsFound.{at_immediate, at_location, at_register}
use Rattle.m11_cpu_quick.proofs.operands.value_of.Goals as goal

pub returns-in-Register-clause-some : goal.returns-in-Register-clause-some
returns-in-Register-clause-some c =
    let is = rw c.in-Register.is at c.requires in
    at_register _ _ _ _ _ c.args.machine.now is.0 is.1 (rw (c.low.ensures.low, c.held.ensures))

pub returns-in_ok-value-in-Immediate-clause-some : goal.returns-in_ok-value-in-Immediate-clause-some
returns-in_ok-value-in-Immediate-clause-some c =
    let is = rw c.in-Immediate.is at c.requires in
    at_immediate _ _ _ _ _ c.args.machine.now is.0 is.1 (search rules) c.in_ok-value-in-Immediate.ensures.plain
    c.in_ok-value-in-Immediate.ensures.value

pub returns-in_ok-address-in_default : goal.returns-in_ok-address-in_default
returns-in_ok-address-in_default c =
    let location = c.in_ok-address-in_default.ensures in record {
      some = at_location _ _ _ _ _ _ _ _ c.args.machine.now location.some location.plain c.plain.ensures.value;
      fits = c.plain.ensures.fits;
      back = location.back;
      none = search rules;
    }

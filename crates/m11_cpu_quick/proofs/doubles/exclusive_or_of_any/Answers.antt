use Rattle.std.proofs.Common.{rules}
use Rattle.m11_base.specs.declared.operand.Size.TheVariants.{Word}
use Rattle.m11_cpu_quick.specs.Beside.{shown}
use Rattle.m11_cpu_quick.proofs.OperandsFound.{register_fetched}
use Rattle.m11_cpu_quick.proofs.ResultsPut.{changes_exclusive, put_memory, put_register}
use Rattle.m11_cpu_quick.proofs.QuickDone.{in_register, plain_fetched}
use Rattle.m11_cpu_quick.proofs.doubles.exclusive_or_of_any.Goals as goal

pub returns-in-Register-clause-some : goal.returns-in-Register-clause-some
returns-in-Register-clause-some c =
    let is = rw c.in-Register.is at c.requires.form_is in
    changes_exclusive _ _ _ _ _ c.exclusive_or-computed.result _ _ _ _ _ c.args.machine.now c.set_codes.new.self
    c.requires.general c.held-source.ensures (in_register _ _ _ is.0)
    (register_fetched _ Word _ _ _ c.args.machine.now is.1 c.held-value.ensures)
    (rw c.codes.ensures at c.exclusive_or-computed.ensures)
    (put_register _ Word c.exclusive_or-computed.result _ _ _ c.args.machine.now c.set_codes.new.self is.1
    c.hold.ensures c.set_codes.ensures)

pub returns-in_ok-address-in_default : goal.returns-in_ok-address-in_default
returns-in_ok-address-in_default c = record {
  some = changes_exclusive _ _ _ _ _ c.exclusive_or-computed-in_default.result _ _ _ _ _ c.args.machine.now
      c.set_codes-in_default.new.self c.requires.general c.held-source.ensures c.in_ok-address-in_default.ensures.some
      (plain_fetched _ _ _ (shown _ _ c.args.machine.now) c.in_ok-address-in_default.ensures.plain c.plain-value.ensures.value)
      (rw c.codes-in_default.ensures at c.exclusive_or-computed-in_default.ensures)
      (put_memory _ Word c.exclusive_or-computed-in_default.result _ _ c.args.machine.now c.set_codes-in_default.new.self
      c.in_ok-address-in_default.ensures.plain c.store_plain.ensures.status
      (rw c.store_plain.ensures.stored at c.set_codes-in_default.ensures));
  keeps = search rules;
  none = search rules;
  registers = search rules;
}

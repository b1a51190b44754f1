use Rattle.std.proofs.Common.{rules}
use Rattle.m11_cpu_quick.proofs.ResultsPut.{put_memory, put_register, writes}
use Rattle.m11_cpu_quick.proofs.QuickDone.{in_register}
use Rattle.m11_cpu_quick.proofs.singles.write.Goals as goal

pub returns-in-Register-clause-some : goal.returns-in-Register-clause-some
returns-in-Register-clause-some c =
    let is = rw c.in-Register.is at c.requires in
    writes _ _ _ _ c.single-computed.result _ _ _ _ _ c.args.machine.now c.set_codes.new.self (in_register _ _ _ is.0)
    (rw c.codes.ensures at c.single-computed.ensures.computed)
    (put_register _ _ c.single-computed.result _ _ _ c.args.machine.now c.set_codes.new.self is.1
    (rw (c.with_low.ensures, c.held-old.ensures) at c.hold.ensures) c.set_codes.ensures)

pub returns-in_ok-address-in_default : goal.returns-in_ok-address-in_default
returns-in_ok-address-in_default c = record {
  some = writes _ _ _ _ c.single-computed.result _ _ _ _ _ c.args.machine.now c.set_codes-in_default.new.self
      c.in_ok-address-in_default.ensures.some (rw c.codes.ensures at c.single-computed.ensures.computed)
      (put_memory _ _ c.single-computed.result _ _ c.args.machine.now c.set_codes-in_default.new.self
      c.in_ok-address-in_default.ensures.plain c.store_plain.ensures.status
      (rw c.store_plain.ensures.stored at c.set_codes-in_default.ensures));
  keeps = search rules;
  none = search rules;
  registers = search rules;
}

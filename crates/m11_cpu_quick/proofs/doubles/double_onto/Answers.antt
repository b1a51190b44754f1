use Rattle.std.proofs.Common.{rules}
use Rattle.m11_cpu_quick.proofs.QuickDone.{bind_comes, in_register}
use Rattle.m11_cpu_quick.proofs.doubles.double_onto.Goals as goal

pub returns-in-Register-clause-some : goal.returns-in-Register-clause-some
returns-in-Register-clause-some c =
    let is = rw c.in-Register.is at c.requires.form_is in
    bind_comes _ _ _ _ _ _ _ (in_register _ _ _ is.0) (c.double_into_register.ensures.done c.args.counter)

pub returns-in_ok-address-in_default : goal.returns-in_ok-address-in_default
returns-in_ok-address-in_default c = record {
  some = bind_comes _ _ _ _ _ _ _ c.in_ok-address-in_default.ensures.some (c.double_into_memory.ensures.done _ _);
  keeps = c.double_into_memory.ensures.keeps;
  none = search rules;
  registers = search rules;
}

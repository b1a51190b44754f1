-- A register that is stored and then read.
use Rattle.std.proofs.Common.{◌≡◌, ℕ, ◌<◌, length, arith}
use Rattle.std.proofs.lemmas.List.{get_or-set_same}
use Rattle.m11_base.specs.Operand.{register_number}
use Rattle.m11_base.specs.declared.operand.Register.{Register}
use Rattle.m11_base.specs.declared.operand.Register.TheVariants.{R0, R1, R2, R3, R4, R5, Sp, Pc}
use Rattle.m11_cpu_machine.specs.Machine.{register_of, with_register}
use Rattle.m11_cpu_machine.specs.declared.machine.Machine.{Machine}

number_below : (register : Register) → register_number register < 8
number_below R0 = omega arith
number_below R1 = omega arith
number_below R2 = omega arith
number_below R3 = omega arith
number_below R4 = omega arith
number_below R5 = omega arith
number_below Sp = omega arith
number_below Pc = omega arith

pub put_same : (register : Register) (v : ℕ) (m : Machine) → length m.registers ≡ 8
    → register_of register (with_register register v m) ≡ v
put_same register v m e =
    let below : register_number register < length m.registers = omega (arith, number_below register) in
    get_or-set_same m.registers (register_number register) v 0 below

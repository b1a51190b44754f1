-- The extended instruction set. (PDP-11/40 Processor Handbook, "Extended instruction set". That ASHC with an odd register uses that
-- register for both words, as DIV does, is this project's own choice.)
use Rattle.std.specs.Prelude.{ℕ, Ok}
use Rattle.m11_cpu_arithmetic.specs.Extended.{product_of, division_of}
use Rattle.m11_cpu_arithmetic.specs.Shifts.{shift_result, shift_pair_result}
use Rattle.m11_cpu_arithmetic.specs.declared.results.Division.{Division}
use Rattle.m11_cpu_arithmetic.specs.declared.results.Division.TheVariants.{Done, Refused}
use Rattle.m11_base.specs.declared.instruction.ExtendedOp.{ExtendedOp}
use Rattle.m11_base.specs.declared.instruction.ExtendedOp.TheVariants.{Mul, Div, Ash, Ashc}
use Rattle.m11_base.specs.declared.operand.Operand.{Operand}
use Rattle.m11_base.specs.declared.operand.Register.{Register}
use Rattle.m11_base.specs.declared.operand.Register.TheVariants.{R0, R1, R2, R3, R4, R5, Sp, Pc}
use Rattle.m11_base.specs.declared.operand.Size.TheVariants.{Word}
use Rattle.m11_cpu_machine.specs.Acts.{Act, ◌>>=◌}
use Rattle.m11_cpu_machine.specs.Dialogue.{Comes}
use Rattle.m11_cpu_machine.specs.Machine.{register_of, with_condition_codes, with_register}
use Rattle.m11_cpu_machine.specs.Addressing.{fetch_operand}
use Rattle.m11_cpu_machine.specs.declared.machine.Machine.{Machine}

-- the register of the low word of a register's pair: the one after an even register, or an odd register itself
abbrev pub low_word_of : Register → Register
low_word_of R0 = R1
low_word_of R1 = R1
low_word_of R2 = R3
low_word_of R3 = R3
low_word_of R4 = R5
low_word_of R5 = R5
low_word_of Sp = Pc
low_word_of Pc = Pc

abbrev pub multiplied : Register → ℕ → Machine → Machine
multiplied register source m =
    let product = product_of (register_of register m) source in
    with_condition_codes product.codes
    (with_register (low_word_of register) product.low (with_register register product.high m))

-- the quotient is stored first, and then the remainder; a refused division only sets the condition codes
abbrev pub after_division : Register → Division → Machine → Machine
after_division register (Done quotient remainder codes) m =
    with_condition_codes codes (with_register (low_word_of register) remainder (with_register register quotient m))
after_division register (Refused codes) m = with_condition_codes codes m

abbrev pub divided : Register → ℕ → Machine → Machine
divided register source m =
    after_division register (division_of (register_of register m) (register_of (low_word_of register) m) source) m

abbrev pub shifted : Register → ℕ → Machine → Machine
shifted register count m =
    let computed = shift_result (register_of register m) count in
    with_condition_codes computed.codes (with_register register computed.value m)

abbrev pub pair_shifted : Register → ℕ → Machine → Machine
pair_shifted register count m =
    let pair = shift_pair_result (register_of register m) (register_of (low_word_of register) m) count in
    with_condition_codes pair.codes (with_register (low_word_of register) pair.low (with_register register pair.high m))

abbrev pub extended_by : ExtendedOp → Register → ℕ → Machine → Machine
extended_by Mul register source m = multiplied register source m
extended_by Div register source m = divided register source m
extended_by Ash register source m = shifted register source m
extended_by Ashc register source m = pair_shifted register source m

-- the source is fetched before the registers are read
unfoldable pub extended : ExtendedOp → Register → Operand → Act (Unit {0})
extended operation register source = fetch_operand source Word >>= λ value m.
    Comes (Ok tt, extended_by operation register value m)

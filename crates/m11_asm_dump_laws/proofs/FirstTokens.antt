-- The names of registers and numbers are tokens.
use Rattle.std.proofs.Common.{◌≡◌, ℕ, true, refl}
use Rattle.m11_base.specs.Devices.{Bytes}
use Rattle.m11_base.specs.declared.operand.Register.{Register}
use Rattle.m11_base.specs.declared.operand.Register.TheVariants.{R0, R1, R2, R3, R4, R5, Sp, Pc}
use Rattle.m11_base_disassembly.specs.Numbers.{number_text}
use Rattle.m11_base_disassembly.specs.Texts.{register_text}
use Rattle.m11_scan.specs.declared.sort.Sort.TheVariants as sorts
use Rattle.m11_asm_dump_laws.proofs.Digits.{text_digits, text_some}
use Rattle.m11_asm_dump_laws.proofs.Tokens.{Begins, Stops, is_name_text, name_begins, number_begins}

register_named : (register : Register) → is_name_text (register_text register) ≡ true
register_named R0 = refl
register_named R1 = refl
register_named R2 = refl
register_named R3 = refl
register_named R4 = refl
register_named R5 = refl
register_named Sp = refl
register_named Pc = refl

pub register_begins : (register : Register) (rest : Bytes) → Stops rest → Begins sorts.Name (register_text register) rest
register_begins register rest stops = name_begins (register_text register) rest (register_named register) stops

pub digits_begin : (number : ℕ) (rest : Bytes) → Stops rest → Begins sorts.Number (number_text number) rest
digits_begin number rest stops = number_begins (number_text number) rest (text_some number) (text_digits number) stops

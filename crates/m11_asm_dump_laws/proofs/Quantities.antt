-- The values of numbers and of the names of registers.
use Rattle.std.proofs.Common.{◌≡◌, ◌∙◌, ℕ, ◌%◌, ◌<◌, Some, option_map, refl, ap, arith}
use Rattle.std.specs.Prelude.{unwrap_or}
use Rattle.m11_base.specs.Rad50.{alphabet, code_of}
use Rattle.m11_base.specs.declared.operand.Register.{Register}
use Rattle.m11_base.specs.declared.operand.Register.TheVariants.{R0, R1, R2, R3, R4, R5, Sp, Pc}
use Rattle.m11_base_disassembly.specs.Numbers.{number_text}
use Rattle.m11_base_disassembly.specs.Texts.{register_text}
use Rattle.m11_scan.specs.Numbers.{number_flags}
use Rattle.m11_scan.specs.declared.radix.Radix.TheVariants.{Octal}
use Rattle.m11_scan_expressions.specs.Expressions.{KnownSymbols, value}
use Rattle.m11_scan_expressions.specs.Quantities.{absolute, missing}
use Rattle.m11_scan_expressions.specs.Terms as terms
use Rattle.m11_scan_expressions.specs.Terms.{name_symbol}
use Rattle.m11_scan_expressions.specs.Values.{value_of}
use Rattle.m11_scan_expressions.specs.declared.names.Symbol.TheVariants.{Ordinary}
use Rattle.m11_asm_dump_laws.specs.Knowledge.{KnowsRegisters, register_name, register_value}
use Rattle.m11_asm_dump_laws.specs.Operands.{number_written, register_written}
use Rattle.m11_asm_dump_laws.proofs.Digits.{none_flagged, number_read}

-- ---- numbers

digits_value : (known : KnownSymbols) (number : ℕ) → value known (number_written number) ≡ terms.number known.radix (number_text number)
unfolding value_of
digits_value known number = refl

itself : (number : ℕ) → number < 65536 → number % 65536 ≡ number
itself number within = omega arith

pub number_value : (known : KnownSymbols) (number : ℕ) → KnowsRegisters known → number < 65536
    → value known (number_written number) ≡ absolute number 0
number_value known number knows within =
    digits_value known number
    ∙ ap (λ r. terms.number r (number_text number)) knows.radix
    ∙ ap (λ n. absolute (n % 65536) (number_flags Octal (number_text number))) (number_read number within)
    ∙ ap (λ f. absolute (number % 65536) f) (none_flagged number within)
    ∙ ap (λ n. absolute n 0) (itself number within)

-- ---- registers

register_symbol : (register : Register) → name_symbol (register_text register) ≡ Some (Ordinary (register_name register))
unfolding code_of alphabet
register_symbol R0 = refl
register_symbol R1 = refl
register_symbol R2 = refl
register_symbol R3 = refl
register_symbol R4 = refl
register_symbol R5 = refl
register_symbol Sp = refl
register_symbol Pc = refl

symbol_value : (known : KnownSymbols) (register : Register)
    → value known (register_written register)
    ≡ unwrap_or (option_map known.value_of_symbol (name_symbol (register_text register))) missing
unfolding value_of
symbol_value known register = refl

pub register_read : (known : KnownSymbols) (register : Register) → KnowsRegisters known
    → value known (register_written register) ≡ register_value register
register_read known register knows =
    symbol_value known register
    ∙ ap (λ s. unwrap_or (option_map known.value_of_symbol s) missing) (register_symbol register)
    ∙ knows.registers register

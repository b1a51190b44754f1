-- The texts of operands whose words have no relocations.
use Rattle.std.proofs.Common.{◌≡◌, ℕ, zero, suc, List, [], ◌∷◌, ◌++◌, refl, ap}
use Rattle.m11_base.specs.Devices.{Bytes}
use Rattle.m11_base_disassembly.specs.Arguments.{Argument}
use Rattle.m11_base_disassembly.specs.Numbers.{number_text}
use Rattle.m11_base_disassembly.specs.Symbols.{address_text}
use Rattle.m11_base_disassembly.specs.References.{no_references, reference_after}
use Rattle.m11_base_disassembly.specs.Statements as statements
use Rattle.m11_base_disassembly.specs.Statements.{Operands}
use Rattle.m11_base_disassembly.specs.Texts as named
use Rattle.m11_base_disassembly.specs.Texts.{register_text, words_written}
use Rattle.m11_base_disassembly.specs.declared.symbols.Symbol.{Symbol}
use Rattle.m11_asm_dump_laws.specs.Texts.{argument_text}

abbrev pub operands_text : List Symbol → Operands → Bytes
operands_text symbols statements.Nothing = []
operands_text symbols (statements.One first) = argument_text symbols first
operands_text symbols (statements.Two first second) = argument_text symbols first ++ 0o54 ∷ argument_text symbols second
operands_text symbols (statements.Target address) = address_text symbols address
operands_text symbols (statements.Loop register address) = register_text register ++ 0o54 ∷ address_text symbols address
operands_text symbols (statements.Number number) = number_text number

-- no word of an operand refers to anything
unreferred : (symbols : List Symbol) (words : ℕ) (argument : Argument)
    → named.argument_text symbols (reference_after words no_references) argument ≡ argument_text symbols argument
unreferred symbols zero argument = refl
unreferred symbols (suc words) argument = refl

pub operands_unreferred : (symbols : List Symbol) (operands : Operands)
    → named.operands_text symbols no_references operands ≡ operands_text symbols operands
operands_unreferred symbols statements.Nothing = refl
operands_unreferred symbols (statements.One first) = refl
operands_unreferred symbols (statements.Two first second) =
    ap (λ (text : List ℕ). argument_text symbols first ++ 0o54 ∷ text) (unreferred symbols (words_written first) second)
operands_unreferred symbols (statements.Target address) = refl
operands_unreferred symbols (statements.Loop register address) = refl
operands_unreferred symbols (statements.Number number) = refl

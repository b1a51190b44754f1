-- The operands of a disassembly as an assembly reads them. (MACRO-11 Language Reference Manual, "Addressing modes" and "Numbers"; PDP-11/40
-- Processor Handbook, "Addressing modes".)
use Rattle.std.specs.Prelude.{ℕ, ◌<◌, not, ◌&&◌, Bool, true, false, ◌==◌, if◌then◌else◌, List, [], ◌∷◌, Option, Some, None}
use Rattle.std.specs.List.{list_all}
use Rattle.m11_base.specs.Devices.{Bytes}
use Rattle.m11_base.specs.NameCharacters.{is_name_character}
use Rattle.m11_base.specs.Rad50.{name_text}
use Rattle.m11_base.specs.declared.operand.Register.{Register}
use Rattle.m11_base_disassembly.specs.Arguments.{Argument}
use Rattle.m11_base_disassembly.specs.Arguments as argument
use Rattle.m11_base_disassembly.specs.Names.{bare_name}
use Rattle.m11_base_disassembly.specs.Numbers.{number_text}
use Rattle.m11_base_disassembly.specs.Symbols.{nearest, stands_for}
use Rattle.m11_base_disassembly.specs.Texts.{register_text}
use Rattle.m11_base_disassembly.specs.declared.symbols.Symbol.{Symbol}
use Rattle.m11_scan.specs.Classes.{is_digit}
use Rattle.m11_scan.specs.declared.sort.Sort.{Sort}
use Rattle.m11_scan.specs.declared.sort.Sort.TheVariants.{Name, Number}
use Rattle.m11_scan_expressions.specs.Tokens.{Expression}
use Rattle.m11_asm_rules.specs.declared.operands.WrittenOperand.{WrittenOperand}
use Rattle.m11_asm_rules.specs.declared.operands.WrittenOperand.TheVariants.{Plain, Pointed, Stepped, Before, Indexed, Immediate}

-- whether a text is a name: characters of names, the first of which isn't a digit
abbrev pub is_name_text : Bytes → Bool
is_name_text [] = false
is_name_text (byte ∷ text) = not (is_digit byte) && list_all is_name_character (byte ∷ text)

-- an expression of one token
abbrev pub single : Sort → Bytes → Expression
single sort text = record { sort = sort; text = text } ∷ []

-- a number without leading zeros, as an expression
abbrev pub number_written : ℕ → Expression
number_written number = single Number (number_text number)

-- the name of a register, as an expression
abbrev pub register_written : Register → Expression
register_written register = single Name (register_text register)

-- the name of a symbol, as an expression
abbrev pub name_written : Symbol → Expression
name_written symbol = single Name (bare_name (name_text symbol.name))

-- an address by the name of the symbol that was found for it, if that may stand for it; otherwise its number
abbrev pub written_by : Option Symbol → ℕ → Expression
written_by None address = number_written address
written_by (Some symbol) address = if stands_for address symbol then name_written symbol else number_written address

-- an address as an expression, where no symbol stands for an address other than its value
abbrev pub address_written : List Symbol → ℕ → Expression
address_written symbols address = written_by (nearest address symbols) address

-- the operand that is read from the text of an argument; the flag says whether it begins with `@`
abbrev pub operand_written : List Symbol → Argument → WrittenOperand Expression
operand_written symbols (argument.Plain register) = Plain false (register_written register)
operand_written symbols (argument.Deferred register) = Pointed false (register_written register)
operand_written symbols (argument.Forward register) = Stepped false (register_written register)
operand_written symbols (argument.DeferredForward register) = Stepped true (register_written register)
operand_written symbols (argument.Backward register) = Before false (register_written register)
operand_written symbols (argument.DeferredBackward register) = Before true (register_written register)
operand_written symbols (argument.Indexed number register) = Indexed false (number_written number) (register_written register)
operand_written symbols (argument.DeferredIndexed number register) = Indexed true (number_written number) (register_written register)
operand_written symbols (argument.Immediate number) = Immediate false (number_written number)
operand_written symbols (argument.Absolute address) = Immediate true (address_written symbols address)
operand_written symbols (argument.Relative address) = Plain false (address_written symbols address)
operand_written symbols (argument.DeferredRelative address) = Plain true (address_written symbols address)

-- the number in an operand, if it has one, is a word
abbrev pub IsWithinWord : Argument → Type 0
IsWithinWord (argument.Indexed number register) = number < 65536
IsWithinWord (argument.DeferredIndexed number register) = number < 65536
IsWithinWord (argument.Immediate number) = number < 65536
IsWithinWord (argument.Absolute number) = number < 65536
IsWithinWord (argument.Relative address) = address < 65536
IsWithinWord (argument.DeferredRelative address) = address < 65536
IsWithinWord other = Unit {0}

-- whether an operand ends before this text: at the end of the line, or before a comma
abbrev pub ends_operand : Bytes → Bool
ends_operand [] = true
ends_operand (byte ∷ text) = byte == 0o54

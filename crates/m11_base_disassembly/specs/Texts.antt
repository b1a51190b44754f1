-- The text of a line of source. Addresses in operands, and targets of branches, are written by the names that symbols give them, and words of
-- operands and of data by what they refer to in an object. (MACRO-11 Language Reference Manual, "Assembler statements" and "Addressing modes". That
-- operands begin in the eighth column is this project's own choice.)
use Rattle.std.specs.Prelude.{ℕ, true, false, List, [], ◌∷◌, ◌++◌, length, Option, codes}
use Rattle.m11_base.specs.Devices.{Bytes}
use Rattle.m11_base.specs.declared.operand.Register.{Register}
use Rattle.m11_base.specs.declared.operand.Register.TheVariants.{R0, R1, R2, R3, R4, R5, Sp, Pc}
use Rattle.m11_base_disassembly.specs.Names.{bare_name}
use Rattle.m11_base_disassembly.specs.Numbers.{number_text}
use Rattle.m11_base_disassembly.specs.Arguments.{Argument, Plain, Deferred, Forward, DeferredForward, Backward, DeferredBackward, Indexed, DeferredIndexed, Immediate, Absolute, Relative, DeferredRelative, words_meant}
use Rattle.m11_base_disassembly.specs.References.{reference_after, referred_or}
use Rattle.m11_base_disassembly.specs.Statements.{Operands, Nothing, One, Two, Target, Loop, Number, Statement, Named, DataWord, DataByte}
use Rattle.m11_base_disassembly.specs.Symbols.{address_text}
use Rattle.m11_base_disassembly.specs.declared.references.Reference.{Reference}
use Rattle.m11_base_disassembly.specs.declared.references.References.{References}
use Rattle.m11_base_disassembly.specs.declared.symbols.Symbol.{Symbol}

abbrev pub register_text : Register → Bytes
register_text R0 = codes "R0"
register_text R1 = codes "R1"
register_text R2 = codes "R2"
register_text R3 = codes "R3"
register_text R4 = codes "R4"
register_text R5 = codes "R5"
register_text Sp = codes "SP"
register_text Pc = codes "PC"

-- the name of a register between two texts
abbrev pub between : Bytes → Register → Bytes → Bytes
between first register last = (first ++ register_text register) ++ last

-- an index as it is written, and a register in parentheses
abbrev pub index_text : Bytes → Register → Bytes
index_text index register = index ++ between (codes "(") register (codes ")")

-- a text, and after it a number in octal
abbrev pub prefixed : Bytes → ℕ → Bytes
prefixed first number = first ++ number_text number

-- the text of an operand. Its word is shown by what it refers to, if the word has this reference and that stands for it; otherwise an address
-- by its name, if these symbols have one for it, and any other number, one after `#` or an index, in octal
abbrev pub argument_text : List Symbol → Option Reference → Argument → Bytes
argument_text symbols reference (Plain register) = register_text register
argument_text symbols reference (Deferred register) = between (codes "(") register (codes ")")
argument_text symbols reference (Forward register) = between (codes "(") register (codes ")+")
argument_text symbols reference (DeferredForward register) = between (codes "@(") register (codes ")+")
argument_text symbols reference (Backward register) = between (codes "-(") register (codes ")")
argument_text symbols reference (DeferredBackward register) = between (codes "@-(") register (codes ")")
argument_text symbols reference (Indexed number register) = index_text (referred_or false reference (number_text number)) register
argument_text symbols reference (DeferredIndexed number register) =
    codes "@" ++ index_text (referred_or false reference (number_text number)) register
argument_text symbols reference (Immediate number) = codes "#" ++ referred_or false reference (number_text number)
argument_text symbols reference (Absolute address) = codes "@#" ++ referred_or false reference (address_text symbols address)
argument_text symbols reference (Relative address) = referred_or true reference (address_text symbols address)
argument_text symbols reference (DeferredRelative address) = codes "@" ++ referred_or true reference (address_text symbols address)

-- a name of six characters, padded with spaces, and one more space; the operands begin in the eighth column
abbrev pub name_text : Bytes → Bytes
name_text name = name ++ 32 ∷ []

-- how many words an operand as it is written has after the instruction's code
abbrev pub words_written : Argument → ℕ
words_written argument = length (words_meant 0 argument)

abbrev pub operands_text : List Symbol → References → Operands → Bytes
operands_text symbols references Nothing = []
operands_text symbols references (One first) = argument_text symbols references.first first
operands_text symbols references (Two first second) = argument_text symbols references.first first
    ++ 44 ∷ argument_text symbols (reference_after (words_written first) references) second
operands_text symbols references (Target address) = address_text symbols address
operands_text symbols references (Loop register address) = register_text register ++ 44 ∷ address_text symbols address
operands_text symbols references (Number number) = number_text number

abbrev pub statement_text : List Symbol → References → Statement → Bytes
statement_text symbols references (Named name Nothing) = bare_name name
statement_text symbols references (Named name operands) = name_text name ++ operands_text symbols references operands
statement_text symbols references (DataWord word) = codes ".WORD  " ++ referred_or false references.own (number_text word)
statement_text symbols references (DataByte byte) = prefixed (codes ".BYTE  ") byte

-- Operands as they are written in a source, for each of the eight modes, and their meaning to an assembler. (MACRO-11 Language
-- Reference Manual, "Addressing modes"; PDP-11/40 Processor Handbook, "Addressing modes".)
use Rattle.std.specs.Prelude.{ℕ, ◌+◌, ◌-◌, ◌%◌, List, [], ◌∷◌}
use Rattle.m11_base.specs.declared.operand.Mode.{Mode}
use Rattle.m11_base.specs.declared.operand.Mode.TheVariants as mode
use Rattle.m11_base.specs.declared.operand.Operand.{Operand}
use Rattle.m11_base.specs.declared.operand.Register.{Register}
use Rattle.m11_base.specs.declared.operand.Register.TheVariants.{R0, R1, R2, R3, R4, R5, Sp, Pc}

-- an operand: `R`, `(R)`, `(R)+`, `@(R)+`, `-(R)`, `@-(R)`, `X(R)`, `@X(R)`, `#X`, `@#X`, an address, or `@` and an address
pub data Argument : Type 0 where
  Plain : Register → Argument
  Deferred : Register → Argument
  Forward : Register → Argument
  DeferredForward : Register → Argument
  Backward : Register → Argument
  DeferredBackward : Register → Argument
  Indexed : ℕ → Register → Argument
  DeferredIndexed : ℕ → Register → Argument
  Immediate : ℕ → Argument
  Absolute : ℕ → Argument
  Relative : ℕ → Argument
  DeferredRelative : ℕ → Argument

-- the operand with this mode and register; `word` is the word after the instruction's code, which only some modes use
abbrev pub by_register : Mode → Register → ℕ → Argument
by_register mode.Register register word = Plain register
by_register mode.RegisterDeferred register word = Deferred register
by_register mode.Autoincrement register word = Forward register
by_register mode.AutoincrementDeferred register word = DeferredForward register
by_register mode.Autodecrement register word = Backward register
by_register mode.AutodecrementDeferred register word = DeferredBackward register
by_register mode.Index register word = Indexed word register
by_register mode.IndexDeferred register word = DeferredIndexed word register

-- the operand with this mode and the program counter, for which four modes have forms of their own; `after` is the location after the
-- operand's word
abbrev pub by_counter : Mode → ℕ → ℕ → Argument
by_counter mode.Autoincrement after word = Immediate word
by_counter mode.AutoincrementDeferred after word = Absolute word
by_counter mode.Index after word = Relative ((after + word) % 65536)
by_counter mode.IndexDeferred after word = DeferredRelative ((after + word) % 65536)
by_counter mode.Register after word = Plain Pc
by_counter mode.RegisterDeferred after word = Deferred Pc
by_counter mode.Autodecrement after word = Backward Pc
by_counter mode.AutodecrementDeferred after word = DeferredBackward Pc

abbrev pub argument_by : Mode → Register → ℕ → ℕ → Argument
argument_by m Pc after word = by_counter m after word
argument_by m R0 after word = by_register m R0 word
argument_by m R1 after word = by_register m R1 word
argument_by m R2 after word = by_register m R2 word
argument_by m R3 after word = by_register m R3 word
argument_by m R4 after word = by_register m R4 word
argument_by m R5 after word = by_register m R5 word
argument_by m Sp after word = by_register m Sp word

abbrev pub argument : Operand → ℕ → ℕ → Argument
argument operand after word = argument_by operand.mode operand.register after word

-- how many words an operand has after the instruction's code: 0 or 1
abbrev pub words_by : Mode → Register → ℕ
words_by mode.Index register = 1
words_by mode.IndexDeferred register = 1
words_by mode.Autoincrement Pc = 1
words_by mode.AutoincrementDeferred Pc = 1
words_by other register = 0

abbrev pub words_of : Operand → ℕ
words_of operand = words_by operand.mode operand.register

-- ---- the meaning of operands to an assembler

-- the operand with this mode and this register
abbrev pub coded : Mode → Register → Operand
coded m register = record { mode = m; register = register }

abbrev pub operand_meant : Argument → Operand
operand_meant (Plain register) = coded mode.Register register
operand_meant (Deferred register) = coded mode.RegisterDeferred register
operand_meant (Forward register) = coded mode.Autoincrement register
operand_meant (DeferredForward register) = coded mode.AutoincrementDeferred register
operand_meant (Backward register) = coded mode.Autodecrement register
operand_meant (DeferredBackward register) = coded mode.AutodecrementDeferred register
operand_meant (Indexed number register) = coded mode.Index register
operand_meant (DeferredIndexed number register) = coded mode.IndexDeferred register
operand_meant (Immediate number) = coded mode.Autoincrement Pc
operand_meant (Absolute number) = coded mode.AutoincrementDeferred Pc
operand_meant (Relative address) = coded mode.Index Pc
operand_meant (DeferredRelative address) = coded mode.IndexDeferred Pc

-- the distance of an address from a location, modulo 65536
abbrev pub distance : ℕ → ℕ → ℕ
distance after address = (address + 65536 - after) % 65536

-- the operand's word after the instruction's code, if it has one; `after` is the location after that word, and for a relative operand the
-- word is the distance from there
abbrev pub words_meant : ℕ → Argument → List ℕ
words_meant after (Plain register) = []
words_meant after (Deferred register) = []
words_meant after (Forward register) = []
words_meant after (DeferredForward register) = []
words_meant after (Backward register) = []
words_meant after (DeferredBackward register) = []
words_meant after (Indexed number register) = number ∷ []
words_meant after (DeferredIndexed number register) = number ∷ []
words_meant after (Immediate number) = number ∷ []
words_meant after (Absolute number) = number ∷ []
words_meant after (Relative address) = distance after address ∷ []
words_meant after (DeferredRelative address) = distance after address ∷ []

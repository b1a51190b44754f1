-- The addresses that the operands of a line of source are written as: those of `@#X`, `X` and `@X`, and the targets of branches. (MACRO-11
-- Language Reference Manual, "Addressing modes" and "Branch instruction addressing".)
use Rattle.std.specs.Prelude.{ℕ, List, [], ◌∷◌, ◌++◌}
use Rattle.m11_base_disassembly.specs.Arguments.{Argument, Absolute, Relative, DeferredRelative}
use Rattle.m11_base_disassembly.specs.Statements.{Operands, Nothing, One, Two, Target, Loop, Number, Statement, Named, DataWord, DataByte}

abbrev pub address_in : Argument → List ℕ
address_in (Absolute address) = address ∷ []
address_in (Relative address) = address ∷ []
address_in (DeferredRelative address) = address ∷ []
address_in other = []

abbrev pub addresses_in : Operands → List ℕ
addresses_in Nothing = []
addresses_in (One first) = address_in first
addresses_in (Two first second) = address_in first ++ address_in second
addresses_in (Target address) = address ∷ []
addresses_in (Loop register address) = address ∷ []
addresses_in (Number number) = []

-- the addresses in a line of source, in the order in which they are written; data has none
abbrev pub addresses_of : Statement → List ℕ
addresses_of (Named name operands) = addresses_in operands
addresses_of (DataWord word) = []
addresses_of (DataByte byte) = []

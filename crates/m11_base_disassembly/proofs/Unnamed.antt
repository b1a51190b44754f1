-- Operands by a register other than the program counter have no addresses, so names make no difference to them.
use Rattle.std.proofs.Common.{◌≡◌, ℕ, List, [], Option, refl}
use Rattle.m11_base.specs.declared.operand.Mode.{Mode}
use Rattle.m11_base.specs.declared.operand.Mode.TheVariants.{Register, RegisterDeferred, Autoincrement, AutoincrementDeferred, Autodecrement, AutodecrementDeferred, Index, IndexDeferred}
use Rattle.m11_base.specs.declared.operand.Register.{Register as AnyRegister}
use Rattle.m11_base_disassembly.specs.Arguments.{by_register}
use Rattle.m11_base_disassembly.specs.Texts.{argument_text}
use Rattle.m11_base_disassembly.specs.declared.references.Reference.{Reference}
use Rattle.m11_base_disassembly.specs.declared.symbols.Symbol.{Symbol}

pub by_register_alone : (symbols : List Symbol) (reference : Option Reference) (mode : Mode) (register : AnyRegister) (word : ℕ)
    → argument_text [] reference (by_register mode register word) ≡ argument_text symbols reference (by_register mode register word)
by_register_alone symbols reference Register register word = refl
by_register_alone symbols reference RegisterDeferred register word = refl
by_register_alone symbols reference Autoincrement register word = refl
by_register_alone symbols reference AutoincrementDeferred register word = refl
by_register_alone symbols reference Autodecrement register word = refl
by_register_alone symbols reference AutodecrementDeferred register word = refl
by_register_alone symbols reference Index register word = refl
by_register_alone symbols reference IndexDeferred register word = refl

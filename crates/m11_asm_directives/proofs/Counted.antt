-- A list has as many elements as were read.
use Rattle.std.proofs.Common.{◌≡◌, List, [], ◌∷◌, length, suc, refl, ap}
use Rattle.m11_base.specs.Devices.{Bytes}
use Rattle.m11_scan_expressions.specs.declared.exprs.Expr.{Expr}
use Rattle.m11_asm_operands.specs.Elements.{elements_model}

pub as_many : (line : Bytes) (elements : List Expr) → length elements ≡ length (elements_model line elements)
as_many line [] = refl
as_many line (element ∷ elements) = ap suc (as_many line elements)

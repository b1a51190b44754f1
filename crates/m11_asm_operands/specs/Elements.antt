-- The code's elements of a list, as the definitions represent them, and the comma after an element. (MACRO-11 Language Reference Manual,
-- ".WORD directive".)
use Rattle.std.specs.Prelude.{◌≡◌, ℕ, if◌then◌else◌, List, map, Option, Some, None}
use Rattle.m11_base.specs.Devices.{Bytes}
use Rattle.m11_scan.specs.declared.cutting.Token.{Token}
use Rattle.m11_scan_expressions.specs.Tokens.{Expression, expression_of}
use Rattle.m11_scan_expressions.specs.declared.exprs.Expr.{Expr}
use Rattle.m11_scan_statements.specs.Listed.{is_comma}
use Rattle.m11_asm_rules.specs.Elements.{elements_at}
use Rattle.m11_asm_operands.specs.declared.elements.Elements as code

abbrev pub elements_model : Bytes → List Expr → List Expression
elements_model line elements = map (expression_of line) elements

-- the elements that were read, and the column after them, are those of the list at a column
pub record AreElements (line : Bytes) (start : ℕ) (read : code.Elements) : Type 0 where
  pub list : elements_model line read.list.items ≡ (elements_at line start).list
  pub end : read.end ≡ (elements_at line start).end

-- the column after a token that is a comma; None for any other token, and without a token
abbrev pub end_of_comma : Option Token → Option ℕ
end_of_comma (Some token) = if is_comma token.sort then Some token.end else None
end_of_comma None = None

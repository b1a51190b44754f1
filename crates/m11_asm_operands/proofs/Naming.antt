-- The operator of a directive's name.
use Rattle.std.proofs.Common.{◌≡◌, Option, Some, None, refl, ap, ◌∙◌}
use Rattle.m11_asm_operands.specs.Directives.{directive_in}
use Rattle.m11_asm_rules.specs.declared.operators.Directive.{Directive}
use Rattle.m11_asm_rules.specs.declared.operators.DirectiveRow.{DirectiveRow}
use Rattle.m11_asm_rules.specs.declared.operators.Operator.{Operator}
use Rattle.m11_asm_rules.specs.declared.operators.Operator.TheVariants as operators

-- the operator of a row, or else another
abbrev pub directive_or : Option DirectiveRow → Option Operator → Option Operator
directive_or found other = elim found [ Some row ↦ Some (operators.Directive row.directive) | None ↦ other ]

abbrev directed : Option Directive → Option Operator → Option Operator
directed (Some directive) other = Some (operators.Directive directive)
directed None other = other

by_row : (found : Option DirectiveRow) (other : Option Operator) → directed (directive_in found) other ≡ directive_or found other
by_row (Some row) other = refl
by_row None other = refl

pub directs : (found : Option DirectiveRow) (other : Option Operator) (directive : Directive)
    → Some directive ≡ directive_in found → Some (operators.Directive directive) ≡ directive_or found other
directs found other directive is = ap (λ (d : Option Directive). directed d other) is ∙ by_row found other

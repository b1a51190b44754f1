use Rattle.std.proofs.Common.{List, ℕ, ap, ◌∙◌}
use Rattle.m11_scan_expressions.specs.Expressions.{value}
use Rattle.m11_scan_expressions.specs.Tokens.{expression_of, is_empty}
use Rattle.m11_asm_directives.proofs.Stepping.{of_element}
use Rattle.m11_asm_operands.specs.LineContext.{Standpoint, line_context_of}
use Rattle.m11_asm_directives.proofs.storage.element_value.Goals as goal

pub returns-else-is_empty : goal.returns-else-is_empty
returns-else-is_empty c =
    of_element _ (expression_of c.args.line_context.now.line c.args.element) _ c.is_empty.result c.if-is_empty.false
    (c.is_empty.ensures ∙ ap (λ (l : List ℕ). is_empty (expression_of l c.args.element)) c.line.ensures)
    (c.reference.ensures ∙ ap (λ (s : Standpoint). value (line_context_of s).refers (expression_of s.line c.args.element)) c.at.ensures)

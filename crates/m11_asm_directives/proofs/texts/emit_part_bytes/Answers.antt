use Rattle.std.proofs.Common.{◌≡◌, ℕ, List, IfOk, subst, sym, ap, ◌∙◌}
use Rattle.m11_scan_expressions.specs.Expressions.{value}
use Rattle.m11_scan_expressions.specs.Tokens.{Expression, expression, expression_of}
use Rattle.m11_asm_operands.specs.LineContext.{Standpoint, line_context_of, standpoint}
use Rattle.m11_asm_rules.specs.Contents.{Emission, byte, followed_by}
use Rattle.m11_asm_rules.specs.Actions.{Characters, Coded}
use Rattle.m11_asm_rules.specs.Strings.{part_bytes, part_text}
use Rattle.m11_scan_statements.specs.declared.parts.PartKind.{PartKind}
use Rattle.m11_scan_statements.specs.declared.parts.PartKind.TheVariants as kinds
use Rattle.m11_scan_expressions.specs.Quantities.{Quantity}
use Rattle.m11_asm_directives.proofs.texts.emit_part_bytes.Goals as goal

pub returns-in-Expression : goal.returns-in-Expression
returns-in-Expression c =
    let here = c.args.line_context.now in
    let done = c.args.emission.now in
    let P : Emission → Type 0 = λ p. IfOk c.emit_byte.result (λ x. c.emit_byte.new.emission ≡ p) in
    subst P
    (ap (λ (q : Quantity). followed_by done (byte here.table c.args.location q))
    (c.reference-value.ensures
    ∙ ap (λ (s : Standpoint). value (line_context_of s).refers (expression_of s.line c.expr_starting-coded.result)) c.at.ensures
    ∙ ap (λ (e : Expression). value (line_context_of (standpoint here.map here.table c.args.location here.line)).refers e)
    (ap (λ (l : List ℕ). expression_of l c.expr_starting-coded.result) (sym c.line-in-Expression.ensures)
    ∙ c.expr_starting-coded.ensures ∙ ap (λ (l : List ℕ). expression l c.args.part.inside.start) c.line-in-Expression.ensures))
    ∙ ap (λ (k : PartKind). followed_by done (part_bytes here.map here.table c.args.location (elim k [
      | kinds.Text ↦ Characters (part_text here.line c.args.part)
      | kinds.Expression ↦ Coded (expression here.line c.args.part.inside.start)
    ])))
    (sym c.in-Expression.is))
    c.emit_byte.ensures

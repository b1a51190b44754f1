use Rattle.std.proofs.Common.{sym, ◌∙◌}
use Rattle.m11_scan.specs.Views.{lexeme}
use Rattle.m11_scan_statements.proofs.Operands.{operand_unset}
use Rattle.m11_scan_statements.proofs.bodies.assignment_to.Goals as goal

pub returns-then-begins_operand : goal.returns-then-begins_operand
returns-then-begins_operand c =
    let line = c.args.line.now.text in
    sym (operand_unset line (lexeme line c.args.target) c.args.target.end
    (sym c.begins_operand.ensures ∙ c.if-begins_operand.true))

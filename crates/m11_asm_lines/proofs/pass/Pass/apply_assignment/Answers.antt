use Rattle.std.proofs.Common.{◌∙◌, sym, ap}
use Rattle.m11_scan_expressions.specs.Tokens.{expression_of}
use Rattle.m11_asm_rules.specs.Assignments.{assigned}
use Rattle.m11_asm_rules.specs.Limits.{has_too_many}
use Rattle.m11_asm_rules.specs.Tables.{Table}
use Rattle.m11_asm_lines.proofs.Assigning.{assigned_by}
use Rattle.m11_asm_lines.proofs.pass.Pass.apply_assignment.Goals as goal

pub returns-then-is_full_for-clause-refuses : goal.returns-then-is_full_for-clause-refuses
returns-then-is_full_for-clause-refuses c =
    let tokens = expression_of c.args.line.now.text c.args.place in
    ap (λ (t : Table). has_too_many t) (sym (assigned_by c.args.map.now c.args.self.now tokens c.args.name c.args.is_global))
    ∙ sym (c.is_full_for.ensures c.args.is_global (assigned c.args.map.now c.args.self.now tokens)) ∙ c.if-is_full_for.true

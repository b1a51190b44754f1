use Rattle.std.proofs.Common.{refl}
use Rattle.m11_unfold_rules.specs.Conditions.{condition}
use Rattle.m11_scan_expressions.specs.Expressions.{known_by}
use Rattle.m11_unfold_rules.proofs.Immediately.{remarked_at_once}
use Rattle.m11_unfold_rules.proofs.immediate.iif.Goals as goal

pub returns-clause-remarks : goal.returns-clause-remarks
returns-clause-remarks g c =
    remarked_at_once c.args.line.now.text c.args.remarks.now c.condition.new.remarks _
    (condition (known_by (g.N.Names.base c.args.names.now) (g.N.Names.value_of_symbol c.args.names.now)) c.args.line.now.text
    c.args.column)
    c.in_ok-verdict.verdict _ _ c.in_ok-verdict.ensures.verdict c.in_ok-verdict.ensures.remarks refl
    c.after_comma-statement.ensures c.comma_flags.ensures c.add_flags.ensures

use Rattle.std.proofs.Common.{◌∙◌, ap, sym}
use Rattle.m11_scan_expressions.specs.Expressions.{known_by, value}
use Rattle.m11_scan_expressions.specs.Tokens.{expression_of}
use Rattle.m11_scan_expressions.specs.declared.exprs.Expr.{Expr}
use Rattle.m11_scan_expressions.proofs.Empties.{none_value}
use Rattle.m11_scan_expressions.proofs.exprs.Expr.value.Goals as goal

pub returns-in-Empty : goal.returns-in-Empty
returns-in-Empty g c =
    let known = known_by (g.N.Names.base c.args.names.now) (g.N.Names.value_of_symbol c.args.names.now) in
    c.missing.ensures ∙ none_value known
    ∙ ap (λ (e : Expr). value known (expression_of c.args.line.now.text e)) (sym c.in-Empty.is)

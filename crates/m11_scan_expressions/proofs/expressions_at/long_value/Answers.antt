use Rattle.std.proofs.Common.{List, map, ap, ◌∙◌}
use Rattle.m11_scan.specs.Views.{lexeme}
use Rattle.m11_scan.specs.declared.cutting.Token.{Token}
use Rattle.m11_scan_expressions.proofs.Tokens.{value_seen}
use Rattle.m11_scan_expressions.proofs.expressions_at.long_value.Goals as goal

pub returns : goal.returns
returns g c =
    c.expression_value.ensures
    ∙ value_seen (g.N.Names.base c.args.names.now) (g.N.Names.value_of_symbol c.args.names.now) c.args.line.now.text
    c.as_slice.result.now _
    (ap (λ (ts : List Token). map (lexeme c.args.line.now.text) ts) c.as_slice.ensures.value ∙ c.expression_at.ensures.tokens)

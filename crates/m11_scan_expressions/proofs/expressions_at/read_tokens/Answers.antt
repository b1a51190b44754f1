use Rattle.std.proofs.Common.{◌≡◌, List, map, ap, ◌∙◌, subst}
use Rattle.m11_scan.specs.Views.{lexeme}
use Rattle.m11_scan.specs.declared.cutting.Token.{Token}
use Rattle.m11_scan_expressions.specs.declared.names.Symbol.{Symbol}
use Rattle.m11_scan_expressions.specs.Remarks.{with_symbols}
use Rattle.m11_scan_expressions.proofs.Tokens.{symbols_seen, value_seen}
use Rattle.m11_scan_expressions.proofs.expressions_at.read_tokens.Goals as goal

pub returns-clause-value : goal.returns-clause-value
returns-clause-value g c =
    c.expression_value.ensures
    ∙ value_seen (g.N.Names.base c.args.names.now) (g.N.Names.value_of_symbol c.args.names.now) c.args.line.now.text
    c.as_slice-tokens.result.now _
    (ap (λ (ts : List Token). map (lexeme c.args.line.now.text) ts) c.as_slice-tokens.ensures.value ∙ c.expression_at-expression.ensures.tokens)

pub returns-clause-remarks : goal.returns-clause-remarks
returns-clause-remarks g c =
    let P : List Symbol → Type 0 = λ s. c.add_symbols.new.self ≡ with_symbols c.args.remarks.now s in
    subst P
    (symbols_seen c.args.line.now.text c.as_slice-tokens.result.now _
    (ap (λ (ts : List Token). map (lexeme c.args.line.now.text) ts) c.as_slice-tokens.ensures.value ∙ c.expression_at-expression.ensures.tokens))
    c.in_ok-add_symbols.ensures

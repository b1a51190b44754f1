use Rattle.std.proofs.Common.{◌≡◌, List, map, ap, ◌∙◌, subst, IfOk}
use Rattle.m11_scan.specs.Views.{lexeme}
use Rattle.m11_scan.specs.declared.cutting.Token.{Token}
use Rattle.m11_scan_expressions.specs.declared.names.Symbol.{Symbol}
use Rattle.m11_scan_expressions.specs.Remarks.{with_symbols}
use Rattle.m11_scan_expressions.proofs.Tokens.{symbols_seen}
use Rattle.m11_scan_expressions.proofs.expressions_at.read_all_symbols.Goals as goal

pub returns : goal.returns
returns c =
    let P : List Symbol → Type 0 =
    λ s. IfOk c.add_symbols.result (λ x. c.add_symbols.new.self ≡ with_symbols c.args.remarks.now s) in
    subst P
    (symbols_seen c.args.line.now.text c.as_slice.result.now _
    (ap (λ (ts : List Token). map (lexeme c.args.line.now.text) ts) c.as_slice.ensures.value ∙ c.expression_at.ensures.tokens))
    c.add_symbols.ensures

use Rattle.std.proofs.Common.{◌∙◌, ap, sym}
use Rattle.m11_scan.specs.Views.{lexeme}
use Rattle.m11_scan.specs.declared.radix.Radix.{Radix}
use Rattle.m11_scan_expressions.specs.Terms.{atom_value, item}
use Rattle.m11_scan_expressions.proofs.SingleTerms.{alone}
use Rattle.m11_scan_expressions.proofs.expressions.term_value.Goals as goal

pub returns : goal.returns
returns g c =
    let term = item (g.N.Names.value_of_symbol c.args.names.now) (lexeme c.args.line.now.text c.args.token.now) in
    c.atom.ensures ∙ ap (λ (r : Radix). atom_value r term.atom) c.radix.ensures
    ∙ sym (alone (g.N.Names.base c.args.names.now) term c.requires)

use Rattle.m11_scan_expressions.specs.Tokens.{expression_of}
use Rattle.m11_asm_rules.specs.declared.meanings.Context.TheVariants.{LocalOnly}
use Rattle.m11_asm_directives.proofs.Asking.{known}
use Rattle.m11_asm_directives.proofs.assigning.known_value.Goals as goal

pub returns : goal.returns
returns c =
    known c.new-names.result c.args.map.now LocalOnly c.args.table.now _ (expression_of c.args.line.now.text c.args.place) _ c.value.ensures
    c.new-names.ensures c.location.ensures

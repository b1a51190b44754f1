use Rattle.m11_scan_expressions.specs.Tokens.{expression_of}
use Rattle.m11_asm_rules.specs.declared.meanings.Context.TheVariants.{LocalOnly}
use Rattle.m11_asm_directives.proofs.Asking.{known}
use Rattle.m11_asm_directives.proofs.assigning.read_known_value.Goals as goal

pub returns-clause-value : goal.returns-clause-value
returns-clause-value c =
    known c.new-names.result c.args.map.now LocalOnly c.args.table.now _ (expression_of c.args.line.now.text c.args.place) _
    c.in_ok-value.ensures.value c.new-names.ensures c.location.ensures

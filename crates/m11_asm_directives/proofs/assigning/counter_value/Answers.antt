use Rattle.m11_scan_expressions.specs.Tokens.{expression_of}
use Rattle.m11_asm_directives.proofs.Asking.{firm}
use Rattle.m11_asm_directives.proofs.assigning.counter_value.Goals as goal

pub returns : goal.returns
returns c =
    firm c.new.result c.args.table.now _ (expression_of c.args.line.now.text c.args.place) _ c.value.ensures c.new.ensures c.location.ensures

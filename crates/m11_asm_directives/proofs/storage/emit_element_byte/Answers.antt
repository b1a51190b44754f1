use Rattle.m11_scan_expressions.specs.Tokens.{expression_of}
use Rattle.m11_asm_directives.proofs.Stepping.{byte_on}
use Rattle.m11_asm_directives.proofs.storage.emit_element_byte.Goals as goal

pub returns : goal.returns
returns c =
    byte_on c.args.line_context.now.map c.args.line_context.now.table c.args.emission.now
    c.emit_byte.new.emission c.args.location c.further.result
    (expression_of c.args.line_context.now.line c.args.element) _ c.element_value-value.ensures
    c.in_ok-emit_byte.ensures c.further.ensures

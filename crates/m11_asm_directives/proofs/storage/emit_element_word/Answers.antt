use Rattle.m11_scan_expressions.specs.Tokens.{expression_of}
use Rattle.m11_asm_directives.proofs.Stepping.{word_on}
use Rattle.m11_asm_directives.proofs.storage.emit_element_word.Goals as goal

pub returns : goal.returns
returns c =
    word_on c.args.line_context.now.map c.args.line_context.now.table c.args.emission.now
    c.emit_word.new.emission c.args.location c.further.result
    (expression_of c.args.line_context.now.line c.args.element) _ c.element_value-value.ensures
    c.in_ok-emit_word.ensures c.further.ensures

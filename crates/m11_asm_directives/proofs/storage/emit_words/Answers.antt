use Rattle.std.proofs.Common.{List, sym, ap, ◌∙◌}
use Rattle.std.proofs.lemmas.List.{drop_all}
use Rattle.m11_asm_operands.proofs.Joining.{followed_nothing}
use Rattle.m11_asm_rules.specs.Contents.{followed_by}
use Rattle.m11_asm_operands.specs.Elements.{elements_model}
use Rattle.m11_scan_expressions.specs.declared.exprs.Expr.{Expr}
use Rattle.m11_asm_rules.specs.Storage.{words_from}
use Rattle.m11_asm_directives.proofs.storage.emit_words.Goals as goal

pub returns : goal.returns
returns c =
    let here = c.args.line_context.now in
    sym (followed_nothing c.elements.emission)
    ∙ ap (λ (r : List Expr). followed_by c.elements.emission (words_from here.map here.table c.elements.location (elements_model here.line r)))
    (sym (drop_all c.elements.element-index c.args.elements.now c.elements-test.false))
    ∙ c.elements.invariant

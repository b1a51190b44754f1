use Rattle.std.proofs.Common.{◌∙◌, sym, ap}
use Rattle.m11_asm_operands.proofs.Joining.{followed_nothing}
use Rattle.m11_asm_rules.specs.Contents.{followed_by}
use Rattle.m11_asm_rules.specs.Effects.{stored}
use Rattle.m11_asm_directives.specs.Stored.{storage_model}
use Rattle.m11_asm_directives.specs.declared.stored.Storage.{Storage}
use Rattle.m11_asm_directives.proofs.stored.Storage.emit.Goals as goal

pub returns-in-AlignTo : goal.returns-in-AlignTo
returns-in-AlignTo c =
    let here = c.args.line_context.now in
    let old = c.args.emission.now in
    sym (followed_nothing old)
    ∙ ap (λ (s : Storage). followed_by old (stored here.map here.table here.location (storage_model here.line c.args.arguments.now s)))
    (sym c.in-AlignTo.is)

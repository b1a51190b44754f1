use Rattle.std.proofs.Common.{◌∙◌, ◌*◌, ℕ, sym, ap}
use Rattle.m11_asm_rules.specs.Effects.{size}
use Rattle.m11_asm_directives.specs.Stored.{storage_model}
use Rattle.m11_asm_directives.specs.declared.stored.Storage.{Storage}
use Rattle.m11_asm_directives.proofs.stored.Storage.size.Goals as goal

pub returns-in-WordList-clause-size : goal.returns-in-WordList-clause-size
returns-in-WordList-clause-size c =
    let line = c.args.line.now.text in
    ap (λ (n : ℕ). n * 2) (c.element_count.ensures.count line)
    ∙ ap (λ (s : Storage). size c.args.table.now c.args.here (storage_model line c.args.arguments.now s)) (sym c.in-WordList.is)

pub returns-in-ByteList-clause-size : goal.returns-in-ByteList-clause-size
returns-in-ByteList-clause-size c =
    let line = c.args.line.now.text in
    c.element_count-in-ByteList.ensures.count line
    ∙ ap (λ (s : Storage). size c.args.table.now c.args.here (storage_model line c.args.arguments.now s)) (sym c.in-ByteList.is)

use Rattle.std.proofs.Common.{◌∙◌, ℕ, List, ap}
use Rattle.m11_scan_expressions.specs.Tokens.{expression_of}
use Rattle.m11_asm_rules.specs.Contents.{followed_by, nothing}
use Rattle.m11_asm_rules.specs.Meanings.{firm_known}
use Rattle.m11_asm_rules.specs.Storage.{count_flags}
use Rattle.m11_asm_rules.specs.Tables.{Table}
use Rattle.m11_asm_directives.proofs.stored.emit_room.Goals as goal

pub returns : goal.returns
returns c =
    let here = c.args.line_context.now in
    c.add_flags.ensures
    ∙ ap (λ (n : ℕ). followed_by c.args.emission.now (nothing n))
    (c.count_flags-flags.ensures
    ∙ ap (λ (t : Table). count_flags (firm_known t c.location.result) (expression_of c.line.result.now.text c.args.count)) c.table.ensures
    ∙ ap (λ (n : ℕ). count_flags (firm_known here.table n) (expression_of c.line.result.now.text c.args.count)) c.location.ensures
    ∙ ap (λ (l : List ℕ). count_flags (firm_known here.table here.location) (expression_of l c.args.count)) c.line.ensures)

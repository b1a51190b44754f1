use Rattle.std.proofs.Common.{ℕ, List, ap, ◌∙◌}
use Rattle.m11_asm_rules.specs.Contents.{further}
use Rattle.m11_asm_rules.specs.Strings.{content_in, part_size}
use Rattle.m11_asm_directives.proofs.TextSteps.{part_on}
use Rattle.m11_asm_directives.proofs.texts.emit_part.Goals as goal

pub returns : goal.returns
returns c =
    let here = c.args.line_context.now in
    part_on here.map here.table c.args.emission.now c.emit_part_bytes.new.emission c.args.location c.further.result
    (content_in here.line c.args.part)
    c.in_ok-emit_part_bytes.ensures
    (c.further.ensures ∙ ap (λ (n : ℕ). further c.args.location n)
    (c.part_size.ensures.size ∙ ap (λ (l : List ℕ). part_size (content_in l c.args.part)) c.line.ensures))

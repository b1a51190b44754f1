use Rattle.std.proofs.Common.{◌∙◌, ◌+◌, ◌%◌, ℕ, true, ap, sym}
use Rattle.m11_asm_rules.specs.Alignment.{gap}
use Rattle.m11_asm_rules.specs.Changes.{Counts}
use Rattle.m11_asm_rules.specs.Fields.{Fields, forms_of}
use Rattle.m11_asm_rules.specs.Operands.{instruction_size}
use Rattle.m11_asm_rules.specs.Locations.{Steps}
use Rattle.m11_asm_rules.specs.Tables.{location}
use Rattle.m11_asm_lines.proofs.FirmEffects.{instruction_firm}
use Rattle.m11_asm_lines.proofs.effects.instruction_steps.Goals as goal

pub returns : goal.returns
returns c =
    ap (λ (n : ℕ). Counts (Steps (n + c.from-2.result)))
    (c.from.ensures ∙ c.gap-passed.ensures.bytes ∙ ap (gap true) c.location.ensures)
    ∙ ap (λ (n : ℕ). Counts (Steps (location c.args.table.now % 2 + n)))
    (c.from-2.ensures ∙ c.instruction_size-size.ensures c.args.line.now.text
    ∙ ap (λ (f : Fields). instruction_size (forms_of f)) c.requires)
    ∙ sym (instruction_firm c.args.table.now c.args.line.now.text c.args.operation c.args.start)

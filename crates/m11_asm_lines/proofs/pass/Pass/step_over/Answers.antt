use Rattle.std.proofs.Common.{◌≡◌, ◌∙◌, ap, sym, subst}
use Rattle.m11_asm_rules.specs.Changes.{Change, changed}
use Rattle.m11_asm_rules.specs.Effects.{instruction_change}
use Rattle.m11_asm_rules.specs.Instructions.{line_fields}
use Rattle.m11_asm_rules.specs.Tables.{Table, firm_table}
use Rattle.m11_asm_lines.proofs.pass.Pass.step_over.Goals as goal

pub instruction_steps-steps-requires : goal.instruction_steps-steps-requires
instruction_steps-steps-requires c =
    c.requires ∙ ap (λ (t : Table). line_fields t c.args.line.now.text c.args.start c.args.operation) (sym c.self.view_is)

pub returns : goal.returns
returns c = λ map.
    let P : Change → Type 0 = λ change. c.count.new.self ≡ changed map change c.args.self.now in
    subst P
    (c.instruction_steps-steps.ensures
    ∙ ap (λ (t : Table). instruction_change (firm_table t) c.args.line.now.text c.args.operation c.args.start) c.self.view_is)
    c.count.ensures

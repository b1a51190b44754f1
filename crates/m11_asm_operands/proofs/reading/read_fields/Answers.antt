use Rattle.std.proofs.Common.{◌∙◌, ℕ, ap, true}
use Rattle.m11_asm_rules.specs.Alignment.{location_for}
use Rattle.m11_asm_rules.specs.Asking.{FirmContext}
use Rattle.m11_asm_rules.specs.Fields.{fields_at}
use Rattle.m11_asm_rules.specs.Instructions.{fields}
use Rattle.m11_asm_rules.specs.Meanings.{empty_map, known_at}
use Rattle.m11_asm_rules.specs.Tables.{firm_table}
use Rattle.m11_asm_rules.specs.declared.meanings.Context.TheVariants.{LocalOnly}
use Rattle.m11_asm_operands.proofs.reading.read_fields.Goals as goal

pub returns : goal.returns
returns c =
    let line = c.args.line.now.text in
    c.read.ensures
    ∙ ap (λ (a : FirmContext). fields_at (known_at empty_map LocalOnly (firm_table a.table) a.location) line c.args.start c.args.operation)
    c.new.ensures
    ∙ ap (λ (n : ℕ). fields c.args.table.now n line c.args.start c.args.operation)
    (c.location_for-here.ensures ∙ ap (location_for true) c.location.ensures)

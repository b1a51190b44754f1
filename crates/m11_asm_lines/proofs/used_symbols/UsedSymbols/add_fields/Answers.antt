use Rattle.m11_asm_operands.specs.Reads.{field_model}
use Rattle.m11_asm_rules.specs.SymbolUses.{field_uses}
use Rattle.m11_asm_lines.proofs.Gathering.{added_then, failed_first}
use Rattle.m11_asm_lines.proofs.used_symbols.UsedSymbols.add_fields.Goals as goal

pub returns-in_err-add_field : goal.returns-in_err-add_field
returns-in_err-add_field c =
    failed_first (field_uses (field_model c.args.line.now.text c.args.fields.now.first))
    (field_uses (field_model c.args.line.now.text c.args.fields.now.second))
    c.args.self.now _ c.in_err-add_field.field-0.0 _ c.in_err-add_field.ensures c.from_residual.ensures.1

pub returns : goal.returns
returns c =
    added_then (field_uses (field_model c.args.line.now.text c.args.fields.now.first))
    (field_uses (field_model c.args.line.now.text c.args.fields.now.second))
    c.args.self.now _ _ _ c.in_ok-add_field.ensures c.add_field-2.ensures

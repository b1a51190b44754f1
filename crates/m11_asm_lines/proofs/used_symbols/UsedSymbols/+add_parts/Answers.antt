use Rattle.std.proofs.Common.{refl}
use Rattle.m11_asm_rules.specs.Strings.{content_in}
use Rattle.m11_asm_rules.specs.SymbolUses.{part_use}
use Rattle.m11_scan_statements.specs.declared.parts.Part.{Part}
use Rattle.m11_asm_lines.proofs.Gathering.{failed_item, item_then}
use Rattle.m11_asm_lines.proofs.used_symbols.UsedSymbols.+add_parts.Goals as goal

pub returns-in_err-add_part-in-len1-up : goal.returns-in_err-add_part-in-len1-up
returns-in_err-add_part-in-len1-up t c =
    failed_item (λ (part : Part). part_use c.args.context (content_in c.args.line.now.text part)) c.args.parts.now _ _ c.args.self.now c.from_residual.result c.add_part.new.self
    c.in_err-add_part-in-len1-up.field-0.0 c.in-len1-up.len_at_least refl c.in_err-add_part-in-len1-up.ensures c.from_residual.ensures.1

pub returns-in_ok-add_part-in-len1-up : goal.returns-in_ok-add_part-in-len1-up
returns-in_ok-add_part-in-len1-up t c =
    item_then (λ (part : Part). part_use c.args.context (content_in c.args.line.now.text part)) c.args.parts.now _ _ c.args.self.now c.add_parts.result c.add_part.new.self c.add_parts.new.self
    c.in-len1-up.len_at_least refl c.in_ok-add_part-in-len1-up.ensures c.add_parts.ensures

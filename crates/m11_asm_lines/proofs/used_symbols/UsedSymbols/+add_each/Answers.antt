use Rattle.std.proofs.Common.{sym}
use Rattle.m11_asm_lines.proofs.Gathering.{failed_symbol}
use Rattle.m11_asm_lines.proofs.used_symbols.UsedSymbols.+add_each.Goals as goal

pub returns-in_err-add-in-len1-up : goal.returns-in_err-add-in-len1-up
returns-in_err-add-in-len1-up t c =
    failed_symbol c.args.context c.args.symbols.now c.symbol-item.result _ c.args.self.now c.add.new.self c.in_err-add-in-len1-up.field-0.0
    c.from_residual.result c.in-len1-up.len_at_least (sym c.symbol-item.is) c.in_err-add-in-len1-up.ensures.adds c.from_residual.ensures.1

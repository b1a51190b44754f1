use Rattle.std.proofs.Common.{length}
use Rattle.m11_asm_lines.proofs.used_symbols.UsedSymbols.+add_each.Given as goal

abbrev pub decreases-add_each : goal.decreases-add_each
decreases-add_each l = length l.symbols.now

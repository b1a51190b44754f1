use Rattle.std.proofs.Common.{length}
use Rattle.m11_asm_lines.proofs.used_symbols.UsedSymbols.+add_names.Given as goal

abbrev pub decreases-add_names : goal.decreases-add_names
decreases-add_names l = length l.names.now

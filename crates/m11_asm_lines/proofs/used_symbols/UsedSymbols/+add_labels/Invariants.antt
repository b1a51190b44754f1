use Rattle.std.proofs.Common.{length}
use Rattle.m11_asm_lines.proofs.used_symbols.UsedSymbols.+add_labels.Given as goal

abbrev pub decreases-add_labels : goal.decreases-add_labels
decreases-add_labels l = length l.labels.now

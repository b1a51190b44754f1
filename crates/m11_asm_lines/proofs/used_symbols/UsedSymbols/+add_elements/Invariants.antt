use Rattle.std.proofs.Common.{length}
use Rattle.m11_asm_lines.proofs.used_symbols.UsedSymbols.+add_elements.Given as goal

abbrev pub decreases-add_elements : goal.decreases-add_elements
decreases-add_elements l = length l.elements.now

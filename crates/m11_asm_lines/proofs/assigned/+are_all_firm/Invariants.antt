use Rattle.std.proofs.Common.{length}
use Rattle.m11_asm_lines.proofs.assigned.+are_all_firm.Given as goal

abbrev pub decreases-are_all_firm : goal.decreases-are_all_firm
decreases-are_all_firm l = length l.symbols.now

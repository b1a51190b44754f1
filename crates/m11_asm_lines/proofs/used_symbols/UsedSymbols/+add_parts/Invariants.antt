use Rattle.std.proofs.Common.{length}
use Rattle.m11_asm_lines.proofs.used_symbols.UsedSymbols.+add_parts.Given as goal

abbrev pub decreases-add_parts : goal.decreases-add_parts
decreases-add_parts l = length l.parts.now

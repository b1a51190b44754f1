use Rattle.std.proofs.Common.{length}
use Rattle.m11_asm_lines.proofs.pass.Pass.+export_all.Given as goal

abbrev pub decreases-export_all : goal.decreases-export_all
decreases-export_all l = length l.names.now

use Rattle.std.proofs.Common.{length}
use Rattle.m11_asm_lines.proofs.pass.Pass.+define_labels.Given as goal

abbrev pub decreases-define_labels : goal.decreases-define_labels
decreases-define_labels l = length l.labels.now

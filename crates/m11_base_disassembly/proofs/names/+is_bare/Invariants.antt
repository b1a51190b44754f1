use Rattle.std.proofs.Common.{length}
use Rattle.m11_base_disassembly.proofs.names.+is_bare.Given as goal

abbrev pub decreases-is_bare : goal.decreases-is_bare
decreases-is_bare l = length l.name.now

use Rattle.std.proofs.Common.{length}
use Rattle.m11_base_disassembly.proofs.names.+put_bare_name.Given as goal

abbrev pub decreases-put_bare_name : goal.decreases-put_bare_name
decreases-put_bare_name l = length l.name.now

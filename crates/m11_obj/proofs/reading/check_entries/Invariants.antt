use Rattle.std.proofs.Common.{◌≡◌, length}
use Rattle.m11_obj.specs.Reading.{checked, entries_of}
use Rattle.m11_obj.proofs.reading.check_entries.Given as goal

abbrev pub invariant-loop-rest : goal.invariant-loop-rest
invariant-loop-rest l = checked (entries_of l.rest) ≡ checked (entries_of l.bytes)

abbrev pub decreases-loop-rest : goal.decreases-loop-rest
decreases-loop-rest l = length l.rest

use Rattle.std.proofs.Common.{◌+◌, ◌*◌, ◌≤◌, length}
use Rattle.m11_obj_blocks.specs.Frames.{content_limit}
use Rattle.m11_obj.proofs.Entries.{AreRead}
use Rattle.m11_obj.proofs.reading.read_entries.Given as goal

abbrev pub invariant-entries : goal.invariant-entries
invariant-entries l = record {
  read : AreRead l.bytes l.entries.items l.rest;
  room : 8 * length l.entries.items + length l.rest + 2 ≤ content_limit;
}

abbrev pub decreases-entries : goal.decreases-entries
decreases-entries l = length l.rest

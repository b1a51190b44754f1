use Rattle.std.proofs.Common.{◌≡◌, ◌+◌, ◌≤◌, ◌-◌, length}
use Rattle.std.specs.List.{prefix_len}
use Rattle.m11_scan.specs.Classes.{is_plain}
use Rattle.m11_scan.proofs.open_line.plain_run.Given as goal

abbrev pub invariant-eights : goal.invariant-eights
invariant-eights l = record {
  run : (length l.bytes - length l.rest) + prefix_len is_plain l.rest ≡ prefix_len is_plain l.bytes;
  within : length l.rest ≤ length l.bytes;
}

abbrev pub decreases-eights : goal.decreases-eights
decreases-eights l = length l.rest

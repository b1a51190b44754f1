use Rattle.std.proofs.Common.{◌≡◌, ◌+◌, length}
use Rattle.std.specs.List.{prefix_len}
use Rattle.m11_scan.specs.Classes.{is_of}
use Rattle.m11_scan.proofs.classes.run_length.Given as goal

abbrev pub invariant-characters : goal.invariant-characters
invariant-characters l = record {
  run : l.count + prefix_len (is_of l.class) l.rest ≡ prefix_len (is_of l.class) l.text;
  all : l.count + length l.rest ≡ length l.text;
}

abbrev pub decreases-characters : goal.decreases-characters
decreases-characters l = length l.rest

use Rattle.std.proofs.Common.{◌≡◌, ◌+◌, ◌≤◌, ◌++◌, length}
use Rattle.arrayvec.specs.ArrayVec.{array_vec_len}
use Rattle.m11_scan.specs.ErrorFlags.{flag_rows, flags_in}
use Rattle.m11_scan.proofs.flags.ErrorFlags.text.Given as goal

abbrev pub invariant-rows : goal.invariant-rows
invariant-rows l = record {
  flags : l.text.items ++ flags_in l.rest l.self.0 ≡ flags_in flag_rows l.self.0;
  room : array_vec_len l.text + length l.rest ≤ 14;
}

abbrev pub decreases-rows : goal.decreases-rows
decreases-rows l = length l.rest

use Rattle.std.proofs.Common.{◌≡◌, ◌++◌}
use Rattle.std.specs.Int.RustNames.{bit_or}
use Rattle.m11_scan.specs.Views.{bits_of}
use Rattle.m11_unfold_rules.specs.Headers.{formals_within}
use Rattle.m11_unfold_rules.proofs.macros.formals_within.Given as goal

abbrev pub invariant-formals : goal.invariant-formals
invariant-formals l = record {
  list : l.list.items ++ (formals_within l.left l.line.text l.end).list ≡ (formals_within l.bound l.line.text l.column).list;
  flags :
      bit_or (bits_of l.flags) (formals_within l.left l.line.text l.end).flags
      ≡ (formals_within l.bound l.line.text l.column).flags;
}

abbrev pub decreases-formals : goal.decreases-formals
decreases-formals l = l.left

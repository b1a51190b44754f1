use Rattle.std.proofs.Common.{◌≡◌, drop, take, Some}
use Rattle.m11_link_layout.specs.Plan.{bases_onto}
use Rattle.m11_link_layout.proofs.bases.place_all.Given as goal

abbrev pub invariant-sections : goal.invariant-sections
invariant-sections l = record {
  left : bases_onto l.bases.entries l.next (drop l.index l.tables.sections)
      ≡ bases_onto l.initial.bases.entries l.bottom l.tables.sections;
  done : bases_onto l.initial.bases.entries l.bottom (take l.index l.tables.sections)
      ≡ Some (record { bases = l.bases.entries; top = l.next });
}

use Rattle.std.proofs.Common.{◌≡◌, ◌++◌, drop}
use Rattle.m11_dump.specs.Octets.{octets, octets_from}
use Rattle.m11_dump.proofs.octets.put_octets.Given as goal

abbrev pub invariant-octets : goal.invariant-octets
invariant-octets l = l.text.items ++ octets_from l.address l.index (drop l.index l.bytes)
    ≡ l.initial.text.items ++ octets l.address l.bytes
